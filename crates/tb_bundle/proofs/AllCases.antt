-- Cases one behind the other.
use Rattle.std.proofs.Common.{◌≡◌, ◌∙◌, ap, refl, sym, subst, ℕ, ◌+◌, ◌<◌, ◌≤◌, List, [], ◌∷◌, ◌++◌, length, drop, get_or, append_assoc}
use Rattle.std.proofs.lemmas.List.{append-nil, drop_all, drop_more}
use Rattle.tb_detail.specs.declared.Detail.{Detail}
use Rattle.tb_detail.specs.Names.{Text}
use Rattle.tb_reading.specs.Reading.{Numbered}
use Rattle.tb_case_records.specs.declared.case.CaseProof.{CaseProof}
use Rattle.tb_case_records.specs.declared.fault.BundleRefusal.{BundleRefusal}
use Rattle.tb_bundle.specs.declared.body.Body.{Body}
use Rattle.tb_bundle.specs.Bodies.{HasBaseLines, behind_case, case_form, case_forms_from, cases_of, cases_table}
use Rattle.tb_case_records.specs.Cases.{CaseForm, case_of, case_table}
use Rattle.tb_case_records.specs.Ahead.{Ahead}
use Rattle.tb_case_records.specs.Table.{IsPast, Stops}
use Rattle.tb_case_records.proofs.Taking.{past_then, stops_short, stops_then}

module _ (f : CaseForm) (fs : List CaseForm) (old : Ahead) where
  pub case_stop : (e : BundleRefusal) → Stops (case_table f old.ahead) old e → Stops (cases_table (f ∷ fs) old.ahead) old e
  case_stop e t = stops_short (case_table f old.ahead) (cases_table fs (behind_case f old.ahead)) old e t

  module _ (mid : Ahead) (p : IsPast (case_table f old.ahead) old mid) where
    pub cases_stop : (e : BundleRefusal) → Stops (cases_table fs mid.ahead) mid e → Stops (cases_table (f ∷ fs) old.ahead) old e
    cases_stop e t = stops_then (case_table f old.ahead) (cases_table fs (behind_case f old.ahead)) old mid e p (subst (λ (given : List Numbered). Stops (cases_table fs given) mid e) p.rest t)

    pub cases_past : (new : Ahead) → IsPast (cases_table fs mid.ahead) mid new → IsPast (cases_table (f ∷ fs) old.ahead) old new
    cases_past new t = past_then (case_table f old.ahead) (cases_table fs (behind_case f old.ahead)) old mid new p (subst (λ (given : List Numbered). IsPast (cases_table fs given) mid new) p.rest t)

    pub cases_said : (before after all : List CaseProof) (c : CaseProof) → c ≡ case_of f old.ahead → after ≡ before ++ c ∷ []
        → before ++ cases_of (f ∷ fs) old.ahead ≡ all → after ++ cases_of fs mid.ahead ≡ all
    cases_said before after all c is pushed h =
        ap (λ (l : List CaseProof). l ++ cases_of fs mid.ahead) pushed
        ∙ append_assoc before (c ∷ []) (cases_of fs mid.ahead)
        ∙ ap (λ (d : CaseProof). before ++ (d ∷ cases_of fs mid.ahead)) is
        ∙ ap (λ (given : List Numbered). before ++ (case_of f old.ahead ∷ cases_of fs given)) p.rest
        ∙ h

-- the forms from one place on
pub forms_more : (d : Detail) (masks : List ℕ) (at : ℕ) (f : CaseForm) → at < length masks → f ≡ case_form d (at + 1) (get_or masks at 0)
    → case_forms_from d (at + 1) (drop at masks) ≡ f ∷ case_forms_from d (at + 1 + 1) (drop (at + 1) masks)
forms_more d masks at f h e =
    ap (case_forms_from d (at + 1)) (drop_more masks at 0 h)
    ∙ ap (λ (g : CaseForm). g ∷ case_forms_from d (at + 1 + 1) (drop (at + 1) masks)) (sym e)

-- the form that a program has
pub form_is : (body : Body) → HasBaseLines body → (number mask : ℕ) (words : List Text) → words ≡ (case_form body.detail.now number mask).words
    → (let f : CaseForm = record { number = number; case = record { mask = mask }; words = words; x = body.x.now; y = body.y.now; z = body.z.now } in f) ≡ case_form body.detail.now number mask
form_is body bases number mask words e = rw (e, bases.on_x, bases.on_y, bases.on_z) refl

-- at the end of the sets
module _ (d : Detail) (masks : List ℕ) (at : ℕ) (h : length masks ≤ at) where
  none_left : case_forms_from d (at + 1) (drop at masks) ≡ []
  none_left = ap (case_forms_from d (at + 1)) (drop_all at masks h)

  pub past_end : (new : Ahead) → IsPast (cases_table (case_forms_from d (at + 1) (drop at masks)) new.ahead) new new
  past_end new = subst (λ (fs : List CaseForm). IsPast (cases_table fs new.ahead) new new) (sym none_left) (record { faultless = refl; rest = refl; total = refl })

  pub said_end : (new : Ahead) (cs all : List CaseProof) → cs ++ cases_of (case_forms_from d (at + 1) (drop at masks)) new.ahead ≡ all → cs ≡ all
  said_end new cs all e = sym (append-nil cs) ∙ ap (λ (fs : List CaseForm). cs ++ cases_of fs new.ahead) (sym none_left) ∙ e
