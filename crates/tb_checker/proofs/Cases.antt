-- Cases one behind the other, each judged before the next.
use Rattle.std.proofs.Common.{◌≡◌, ◌∙◌, ap, refl, sym, subst, ℕ, ◌+◌, ◌≤◌, List, [], ◌∷◌, length, drop, Option, Some, None}
use Rattle.std.proofs.lemmas.List.{drop_all}
use Rattle.tb_detail.specs.declared.Detail.{Detail}
use Rattle.tb_reading.specs.Reading.{Numbered}
use Rattle.tb_case_records.specs.declared.case.CaseProof.{CaseProof}
use Rattle.tb_case_records.specs.declared.fault.BundleFault.{BundleFault}
use Rattle.tb_case_records.specs.Ahead.{Ahead}
use Rattle.tb_case_records.specs.Cases.{CaseForm, case_of, case_table}
use Rattle.tb_case_records.specs.Table.{first_fault}
use Rattle.tb_bundle.specs.Bodies.{behind_case, case_forms_from, cases_of}
use Rattle.tb_bundle.proofs.AllCases.{cases_past}
use Rattle.tb_checker.specs.declared.fault.CheckRefusal.{CheckRefusal}
use Rattle.tb_checker.specs.Faults.{AreFaultless, Finds, IsFaultless, OfCase, OfCases, OfOne, Records}
use Rattle.tb_checker.proofs.Turns.{by_first, by_second}

-- no fault of records
pub no_fault : (o : Option BundleFault) → o ≡ None → Records o None
no_fault None h = refl
no_fault (Some f) h = cc

module _ (d : Detail) (f : CaseForm) (fs : List CaseForm) (old : Ahead) where
  pub case_finds : (e : CheckRefusal) → Finds (OfOne d f old.ahead) e → Finds (OfCases d (f ∷ fs) old.ahead) e
  case_finds e h = by_first (OfOne d f old.ahead) (OfCases d fs (behind_case f old.ahead)) e h

  module _ (mid : Ahead) (c : CaseProof) (h : IsFaultless d f old mid c) where
    one_right : OfOne d f old.ahead None
    one_right = (no_fault (first_fault (case_table f old.ahead) old.ahead) h.read.past.faultless, subst (λ (x : CaseProof). OfCase d f.number x None) h.read.said h.right)

    pub rest_finds : (e : CheckRefusal) → Finds (OfCases d fs mid.ahead) e → Finds (OfCases d (f ∷ fs) old.ahead) e
    rest_finds e t = by_second (OfOne d f old.ahead) (OfCases d fs (behind_case f old.ahead)) e one_right
        (subst (λ (given : List Numbered). Finds (OfCases d fs given) e) h.read.past.rest t)

    pub case_more : (new : Ahead) (cs : List CaseProof) → AreFaultless d fs mid new cs → AreFaultless d (f ∷ fs) old new (c ∷ cs)
    case_more new cs t = record {
      read = record {
        past = cases_past f fs old mid h.read.past new t.read.past;
        said = ap (λ (x : CaseProof). x ∷ cs) h.read.said
            ∙ ap (λ (xs : List CaseProof). case_of f old.ahead ∷ xs) (t.read.said ∙ ap (cases_of fs) h.read.past.rest);
      };
      right = (one_right, subst (λ (given : List Numbered). OfCases d fs given None) h.read.past.rest t.right);
    }

-- at the end of the sets
pub no_more : (d : Detail) (masks : List ℕ) (at : ℕ) (new : Ahead) → length masks ≤ at → AreFaultless d (case_forms_from d (at + 1) (drop at masks)) new new []
no_more d masks at new h = subst (λ (fs : List CaseForm). AreFaultless d fs new new []) (sym (ap (case_forms_from d (at + 1)) (drop_all at masks h)))
    (record { read = record { past = record { faultless = refl; rest = refl; total = refl }; said = refl }; right = refl })
