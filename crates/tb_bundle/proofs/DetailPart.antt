-- The records of a detail up to the first of the body.
use Rattle.std.proofs.Common.{◌≡◌, ◌∙◌, ap, refl, sym, subst, ℕ, suc, ◌+◌, ◌++◌, ◌∷◌, Bool, true, false, List, [], drop, take, Option, Some, None, Result, Ok, Err, append_assoc, arith, option_map}
use Rattle.tb_detail.specs.declared.Detail.{Detail}
use Rattle.tb_reading.proofs.First.{fault_stays}
use Rattle.tb_reading.specs.Builders.{Feeds, Stands}
use Rattle.tb_reading.specs.Progress.{Progress}
use Rattle.tb_reading.specs.Reading.{Answers, Numbered, detail_reading, first_record_fault, rows_of, whole_fault}
use Rattle.tb_reading.specs.Details.{head_of}
use Rattle.tb_reading.specs.Records.{Row}
use Rattle.tb_reading.specs.declared.fault.DetailKind.TheVariants.{NotFormat}
use Rattle.tb_reading.specs.declared.fault.DetailFault.{DetailFault}
use Rattle.tb_reading.specs.declared.fault.DetailRefusal.{DetailRefusal}
use Rattle.tb_reading.specs.declared.fault.DetailRefusal.TheVariants as detail_refusal
use Rattle.tb_case_records.specs.declared.fault.BundleFault.TheVariants as bundle
use Rattle.tb_case_records.specs.declared.fault.BundleRefusal.{BundleRefusal}
use Rattle.tb_case_records.specs.declared.fault.BundleRefusal.TheVariants as refusal
use Rattle.tb_case_records.specs.Ahead.{Ahead}
use Rattle.tb_case_records.specs.Table.{Refuses}
use Rattle.tb_bundle.specs.Details.{IsDetail, IsFed, IsFedDetail, IsFedOne, RefusesFed, begins_body, body_part, detail_ahead, detail_fault, detail_length, detail_part, next_number, no_detail_fault, refusal_of}

module _ (r : Numbered) (given : List Numbered) where
  one_more : 1 + detail_length given ≡ suc (detail_length given)
  one_more = omega arith

  pub part_more : begins_body r ≡ false → detail_part (r ∷ given) ≡ r ∷ detail_part given
  part_more h = rw h (ap (λ (n : ℕ). take n (r ∷ given)) one_more)

  pub body_more : begins_body r ≡ false → body_part (r ∷ given) ≡ body_part given
  body_more h = rw h (ap (λ (n : ℕ). drop n (r ∷ given)) one_more)

  pub part_none : begins_body r ≡ true → detail_part (r ∷ given) ≡ []
  part_none h = rw h refl

-- without a record of the detail all records are behind it
pub body_all : (given : List Numbered) → detail_part given ≡ [] → body_part given ≡ given
body_all [] h = refl
body_all (r ∷ given) h = by (begins_body r) refl
  where
    by : (b : Bool) → begins_body r ≡ b → body_part (r ∷ given) ≡ r ∷ given
    by true e = rw e refl
    by false e = cc (sym (part_more r given e) ∙ h)

-- a record more
module _ (old new : Ahead) (b b' : Progress) (one : IsFedOne old new b b') where
  pub part_is : detail_part old.ahead ≡ one.record_fed ∷ detail_part new.ahead
  part_is = ap detail_part one.at ∙ part_more one.record_fed new.ahead one.in_detail

  pub body_is : body_part old.ahead ≡ body_part new.ahead
  body_is = ap body_part one.at ∙ body_more one.record_fed new.ahead one.in_detail

-- a refusal behind records that were fed
pub refuses_more : (old mid : Ahead) (b c : Progress) (fed : List Numbered) (e : BundleRefusal)
    → fed ++ detail_part mid.ahead ≡ detail_part old.ahead
    → ((done : List Numbered) → Stands b done → Stands c (done ++ fed))
    → RefusesFed mid c e → RefusesFed old b e
refuses_more old mid b c fed e all stands h = λ done s.
    subst (λ (l : List Numbered). Refuses (option_map bundle.Detail (first_record_fault l)) e)
    (append_assoc done fed (detail_part mid.ahead) ∙ ap (λ (l : List Numbered). done ++ l) all)
    (h (done ++ fed) (stands done s))

-- a refusal of the next record
pub refuses_one : (old : Ahead) (r : Numbered) (rest : List Numbered) (x : DetailRefusal) (done : List Numbered) → old.ahead ≡ r ∷ rest → begins_body r ≡ false
    → Feeds (Err x) (first_record_fault (done ++ r ∷ [])) → Refuses (option_map bundle.Detail (first_record_fault (done ++ detail_part old.ahead))) (refusal_of x)
refuses_one old r rest (detail_refusal.Fault f) done at in_detail h =
    ap (λ (l : List Numbered). option_map bundle.Detail (first_record_fault (done ++ l))) (ap detail_part at ∙ part_more r rest in_detail)
    ∙ ap (λ (l : List Numbered). option_map bundle.Detail (first_record_fault l)) (sym (append_assoc done (r ∷ []) (detail_part rest)))
    ∙ ap (option_map bundle.Detail) (fault_stays (done ++ r ∷ []) (detail_part rest) f h)
refuses_one old r rest detail_refusal.NoMemory done at in_detail h = tt

-- a refusal of the whole detail
pub refuses_detail : (given : List Numbered) (number : ℕ) (e : BundleRefusal) → ((f : DetailFault) → first_record_fault given ≡ Some f → detail_reading number given ≡ Err f)
    → Refuses (option_map bundle.Detail (first_record_fault given)) e → Refuses (detail_fault (detail_reading number given)) e
refuses_detail given number refusal.NoMemory told h = tt
refuses_detail given number (refusal.Fault g) told h = by (first_record_fault given) refl h
  where
    by : (o : Option DetailFault) → first_record_fault given ≡ o → option_map bundle.Detail o ≡ Some g → detail_fault (detail_reading number given) ≡ Some g
    by None e h = cc
    by (Some f) e h = ap detail_fault (told f e) ∙ h

-- ---- a whole detail

abbrev pub Told : Type 0
Told = (number : ℕ) (given : List Numbered) (fault : DetailFault) → first_record_fault given ≡ Some fault → detail_reading number given ≡ Err fault

module _ (old : Ahead) where
  pub no_detail_told : (mid : Ahead) (e : BundleRefusal) → detail_part old.ahead ≡ [] → mid ≡ old → e ≡ refusal.Fault (no_detail_fault mid) → Refuses (detail_fault (detail_ahead old)) e
  unfolding detail_ahead
  no_detail_told mid e none same is = subst (λ (x : BundleRefusal). Refuses (detail_fault (detail_reading (next_number old.total (body_part old.ahead)) (detail_part old.ahead))) x) (sym is)
      (ap (λ (l : List Numbered). detail_fault (detail_reading (next_number old.total (body_part old.ahead)) l)) none
      ∙ ap (λ (l : List Numbered). Some (bundle.Detail (whole_fault NotFormat (next_number old.total l)))) (body_all old.ahead none)
      ∙ ap (λ (a : Ahead). Some (no_detail_fault a)) (sym same))

  pub first_told : Told → (b : Progress) (e : BundleRefusal) → Stands b [] → RefusesFed old b e → Refuses (detail_fault (detail_ahead old)) e
  unfolding detail_ahead
  first_told told b e s h = refuses_detail (detail_part old.ahead) (next_number old.total (body_part old.ahead)) e (told (next_number old.total (body_part old.ahead)) (detail_part old.ahead)) (h [] s)

  module _ (mid : Ahead) (b c : Progress) (s : Stands b []) (one : IsFedOne old mid b c) where
    pub rest_told : Told → (e : BundleRefusal) → RefusesFed mid c e → Refuses (detail_fault (detail_ahead old)) e
    rest_told told e h = first_told told b e s (refuses_more old mid b c (one.record_fed ∷ []) e (sym (part_is old mid b c one)) one.stands h)

    pub fed_detail : (new : Ahead) (d : Progress) → IsFed mid new c d → IsFedDetail old new d
    fed_detail new d all = record {
      rest = all.rest ∙ sym (body_is old mid b c one);
      total = all.total ∙ one.total;
      stands = subst (Stands d) (sym (part_is old mid b c one)) (all.stands (one.record_fed ∷ []) (one.stands [] s));
      head = one.record_fed.1;
      has_head = ap (λ (l : List Numbered). head_of (rows_of l)) (part_is old mid b c one) ∙ rw one.plain refl;
    }

  module _ (new : Ahead) (b : Progress) (fed : IsFedDetail old new b) (same : (number other : ℕ) (given : List Numbered) (head : Row) → head_of (rows_of given) ≡ Some head → detail_reading number given ≡ detail_reading other given) where
    reading_is : (r : Result Detail DetailFault) → detail_reading 1 (detail_part old.ahead) ≡ r → detail_ahead old ≡ r
    unfolding detail_ahead
    reading_is r h = same (next_number old.total (body_part old.ahead)) 1 (detail_part old.ahead) fed.head fed.has_head ∙ h

    pub finished : (d : Detail) → detail_reading 1 (detail_part old.ahead) ≡ Ok d → IsDetail old new d
    finished d h = record { reading = reading_is (Ok d) h; rest = fed.rest; total = fed.total }

    pub refused : (x : DetailRefusal) → Answers (Err x) (detail_reading 1 (detail_part old.ahead)) → Refuses (detail_fault (detail_ahead old)) (refusal_of x)
    refused (detail_refusal.Fault f) h = ap detail_fault (reading_is (Err f) h)
    refused detail_refusal.NoMemory h = tt
