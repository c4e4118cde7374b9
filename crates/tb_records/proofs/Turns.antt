-- All records of a text from a state: one turn after the other, and how many there are.
use Rattle.std.proofs.Common.{◌≡◌, ◌∙◌, ap, refl, ◌+◌, ◌<◌, ◌≤◌, ℕ, zero, suc, List, [], ◌∷◌, length, Option, Some, None, arith}
use Rattle.std.proofs.lemmas.Bool.{cond_both}
use Rattle.std.proofs.lemmas.List.Elements.{All-nil}
use Rattle.std.specs.Prelude.{All}
use Rattle.csv.specs.Machine.{Read, next_record}
use Rattle.csv.specs.Reading.{default_config, is_bom, records, records_from, records_next, strip_bom}
use Rattle.csv.specs.declared.parser.State.{State}
use Rattle.csv.specs.declared.parser.State.TheVariants as st
use Rattle.tb_records.specs.Ahead.{records_after}
use Rattle.tb_records.specs.Records.{records_of}
use Rattle.tb_records.proofs.Machine.{HasField, next_record-field, next_record-shrinks, pending, pending_le}

records_next-same : (o : Option Read) (f g : State → List ℕ → List (List (List ℕ)))
    → ((p : Read) → o ≡ Some p → f p.1 p.2 ≡ g p.1 p.2) → records_next f o ≡ records_next g o
records_next-same None f g h = refl
records_next-same (Some p) f g h = ap (λ (rest : List (List (List ℕ))). p.0 ∷ rest) (h p refl)

-- with more turns than the text has records, how many there are doesn't matter
pub records_from-same : (n m : ℕ) (s : State) (xs : List ℕ) → length xs + pending s < n → length xs + pending s < m
    → records_from default_config n s xs ≡ records_from default_config m s xs
unfolding records_from
records_from-same zero m s xs h k = absurd (omega arith)
records_from-same (suc n) zero s xs h k = absurd (omega arith)
records_from-same (suc n) (suc m) s xs h k =
    records_next-same (next_record default_config s [] [] xs) (records_from default_config n) (records_from default_config m)
    (λ p e. let less = next_record-shrinks s [] [] xs p e in records_from-same n m p.1 p.2 (omega arith) (omega arith))

-- all records of a text
pub records_after-start : (xs : List ℕ) → records_after st.StartRecord xs ≡ records default_config xs
unfolding records_after
records_after-start xs = records_from-same (length xs + 2) (length xs + 1) st.StartRecord xs (omega arith) (omega arith)

-- one turn of them
records_after-turn : (s : State) (xs : List ℕ)
    → records_after s xs ≡ records_next (records_from default_config (suc (length xs))) (next_record default_config s [] [] xs)
unfolding records_after records_from
records_after-turn s xs =
    let bound = pending_le s in
    records_from-same (length xs + 2) (suc (suc (length xs))) s xs (omega arith) (omega arith)

pub records_after-some : (s : State) (xs : List ℕ) (p : Read) → next_record default_config s [] [] xs ≡ Some p
    → records_after s xs ≡ p.0 ∷ records_after p.1 p.2
unfolding records_after
records_after-some s xs p e =
    let less = next_record-shrinks s [] [] xs p e in
    let bound = pending_le s in
    records_after-turn s xs
    ∙ rw e (ap (λ (rest : List (List (List ℕ))). p.0 ∷ rest)
    (records_from-same (suc (length xs)) (length p.2 + 2) p.1 p.2 (omega arith) (omega (arith, pending_le p.1))))

pub records_after-none : (s : State) (xs : List ℕ) → next_record default_config s [] [] xs ≡ None → records_after s xs ≡ []
records_after-none s xs e = records_after-turn s xs ∙ rw e refl

-- there are no more records than bytes, and perhaps one pending
records_next-few : (o : Option Read) (f : State → List ℕ → List (List (List ℕ))) (most : ℕ)
    → ((p : Read) → o ≡ Some p → suc (length (f p.1 p.2)) ≤ most) → length (records_next f o) ≤ most
records_next-few None f most h = omega arith
records_next-few (Some p) f most h = omega (arith, h p refl)

records_from-few : (n : ℕ) (s : State) (xs : List ℕ) → length (records_from default_config n s xs) ≤ length xs + pending s
unfolding records_from
records_from-few zero s xs = omega arith
records_from-few (suc n) s xs =
    records_next-few (next_record default_config s [] [] xs) (records_from default_config n) (length xs + pending s)
    (λ p e. omega (arith, next_record-shrinks s [] [] xs p e, records_from-few n p.1 p.2))

length-strip_bom : (xs : List ℕ) → length (strip_bom xs) ≤ length xs
unfolding strip_bom
length-strip_bom [] = omega arith
length-strip_bom (a ∷ []) = omega arith
length-strip_bom (a ∷ b ∷ []) = omega arith
length-strip_bom (a ∷ b ∷ c ∷ rest) =
    cond_both (is_bom a b c) rest (a ∷ b ∷ c ∷ rest) (λ ys. length ys ≤ suc (suc (suc (length rest)))) (λ _. omega arith) (λ _. omega arith)

pub records_of-few : (bytes : List ℕ) → length (records_of bytes) ≤ length bytes
records_of-few bytes =
    omega (arith, records_from-few (length (strip_bom bytes) + 1) st.StartRecord (strip_bom bytes), length-strip_bom bytes)

-- each record has a first field
All-here : {X : Type 0} (P : X → Type 0) (x : X) (xs : List X) → P x → All P xs → All P (x ∷ xs)
All-here P x xs here rest zero d h = here
All-here P x xs here rest (suc k) d h = rest k d (omega arith)

records_next-have_field : (o : Option Read) (f : State → List ℕ → List (List (List ℕ)))
    → ((p : Read) → o ≡ Some p → HasField p.0 × All HasField (f p.1 p.2)) → All HasField (records_next f o)
records_next-have_field None f h = All-nil HasField
records_next-have_field (Some p) f h = let both = h p refl in All-here HasField p.0 (f p.1 p.2) both.0 both.1

records_from-have_field : (n : ℕ) (s : State) (xs : List ℕ) → All HasField (records_from default_config n s xs)
unfolding records_from
records_from-have_field zero s xs = All-nil HasField
records_from-have_field (suc n) s xs =
    records_next-have_field (next_record default_config s [] [] xs) (records_from default_config n)
    (λ p e. (next_record-field s [] [] xs p e, records_from-have_field n p.1 p.2))

pub records_of-have_field : (bytes : List ℕ) → All HasField (records_of bytes)
records_of-have_field bytes = records_from-have_field (length (strip_bom bytes) + 1) st.StartRecord (strip_bom bytes)
