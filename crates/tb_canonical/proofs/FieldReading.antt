-- Fields that read back: numbers, names that are used and names that are declared.
use Rattle.std.proofs.Common.{◌≡◌, ◌≢◌, ◌∙◌, ap, refl, sym, subst, ℕ, zero, suc, ◌+◌, ◌<◌, ◌≤◌, ◌^◌, Bool, true, false, List, [], ◌∷◌, ◌++◌, length, map, get_or, position, Some, None, Ok, arith, unsigned_abs, ℤ}
use Rattle.std.proofs.lemmas.Bool.{le-ltb, lt-ltb}
use Rattle.std.proofs.lemmas.List.{get_or-map, get_or_append_left, length-map, length-append}
use Rattle.std.proofs.Math.Seq.{get_or-append_seam}
use Rattle.std.proofs.lemmas.Slice.Eq.{bytes_eq-Decides}
use Rattle.std.specs.List.{position_or_len}
use Rattle.std.specs.Str.{bytes_eq}
use Rattle.tb_detail.specs.Names.{AreNamed, Text, is_name}
use Rattle.tb_detail.specs.Quantities.{IsInRange, least, most}
use Rattle.tb_detail.specs.declared.quantity.Quantity.{Quantity}
use Rattle.tb_detail.specs.declared.quantity.Quantity.TheVariants as quantity
use Rattle.tb_numbers.proofs.ShortTexts.{decimal_reads_within, signed_reads_within}
use Rattle.tb_reading.specs.Kinds.{places}
use Rattle.tb_reading.specs.Names.{place_of}
use Rattle.tb_reading.specs.Records.{number_reading, of_number, psi_reading}
use Rattle.tb_canonical.specs.Canonical.{name_at, number, psi_number}

-- ---- numbers

pub most_small : (q : Quantity) → most q < 2 ^ 64
most_small quantity.Length = omega arith
most_small quantity.Thickness = omega arith
most_small quantity.Conductivity = omega arith
most_small quantity.Resistance = omega arith
most_small quantity.Section = omega arith
most_small quantity.Area = omega arith

pub number_read : (q : Quantity) (n : ℕ) → IsInRange q n → number_reading q (number q n) ≡ Ok n
unfolding number_reading
number_read q n r =
    let small : n < 2 ^ 64 = let m = most_small q in let h = r.high in omega arith in
    ap of_number (decimal_reads_within (places q) (least q) (most q) n small r.low r.high)

pub psi_read : (z : ℤ) → unsigned_abs z ≤ 1000000000 → psi_reading (psi_number z) ≡ Ok z
unfolding psi_reading
psi_read z h = ap of_number (signed_reads_within 6 1000000000 z (omega arith) h)

-- ---- names

same_bytes : (a b : Text) → a ≡ b → bytes_eq a b ≡ true
same_bytes a b e = (bytes_eq-Decides a b).1 e

other_bytes : (a b : Text) → a ≢ b → bytes_eq a b ≡ false
other_bytes a b ne = by (bytes_eq a b) refl
  where
    by : (t : Bool) → bytes_eq a b ≡ t → bytes_eq a b ≡ false
    by true e = absurd (ne ((bytes_eq-Decides a b).0 e))
    by false e = e

pub one_more : (n : ℕ) → 1 + n ≡ suc n
one_more n = omega arith

-- the first place of a name, where it stands at this place and no earlier one
pub first_place : (text : Text) (names : List Text) (i : ℕ) → i < length names → get_or names i [] ≡ text → ((k : ℕ) → k < i → get_or names k [] ≢ text) → position_or_len (bytes_eq text) names ≡ i
first_place text [] i h e before = absurd (omega arith)
first_place text (x ∷ names) zero h e before = rw (same_bytes text x (sym e)) refl
first_place text (x ∷ names) (suc i) h e before =
    rw (other_bytes text x (λ s. before 0 (omega arith) (sym s)))
    (ap (λ (n : ℕ). 1 + n) (first_place text names i (omega arith) e (λ k l. before (suc k) (omega arith))) ∙ one_more i)

-- a name that stands nowhere has no place
no_place : (text : Text) (names : List Text) → ((k : ℕ) → k < length names → get_or names k [] ≢ text) → position_or_len (bytes_eq text) names ≡ length names
no_place text [] none = refl
no_place text (x ∷ names) none =
    rw (other_bytes text x (λ s. none 0 (omega arith) (sym s)))
    (ap (λ (n : ℕ). 1 + n) (no_place text names (λ k l. none (suc k) (omega arith))) ∙ one_more (length names))

pub position_at : (p : Text → Bool) (names : List Text) (i : ℕ) → position_or_len p names ≡ i → i < length names → position p names ≡ Some i
position_at p names i e h = rw (e, lt-ltb i (length names) h) refl

pub position_none : {X : Type 0} (p : X → Bool) (xs : List X) → position_or_len p xs ≡ length xs → position p xs ≡ None
position_none p xs e = rw (e, le-ltb (length xs) (length xs) (omega arith)) refl

module _ {X : Type 0} (name : X → Text) where
  -- the name of a thing at a place is found there
  pub place_read : (xs : List X) (i : ℕ) → AreNamed name xs → i < length xs → place_of (map name xs) (name_at (map name xs) i) ≡ Some i
  place_read [] i h l = absurd (omega arith)
  place_read (x ∷ xs) i h l =
      position_at (bytes_eq (name_at (map name (x ∷ xs)) i)) (map name (x ∷ xs)) i
      (first_place (name_at (map name (x ∷ xs)) i) (map name (x ∷ xs)) i within refl
      (λ k b s. h.distinct k i x b l
      (sym (get_or-map name (x ∷ xs) k x [] (omega arith)) ∙ s ∙ get_or-map name (x ∷ xs) i x [] l)))
      within
    where
      within : i < length (map name (x ∷ xs))
      within = omega (arith, length-map (x ∷ xs) name)

  module _ (before : List X) (x : X) (after : List X) (h : AreNamed name (before ++ (x ∷ after))) where
    total : length (before ++ (x ∷ after)) ≡ length before + suc (length after)
    total = length-append before (x ∷ after)

    here : get_or (before ++ (x ∷ after)) (length before) x ≡ x
    here = get_or-append_seam before x after x

    -- a name that is declared has the form of a name
    pub formed : is_name (name x) ≡ true
    formed = subst (λ (y : X). is_name (name y) ≡ true) here (h.formed (length before) x (let t = total in omega arith))

    -- and is new
    pub is_new : place_of (map name before) (name x) ≡ None
    is_new = position_none (bytes_eq (name x)) (map name before) (no_place (name x) (map name before) (λ k l s.
        let below : k < length before = omega (arith, length-map before name) in
        h.distinct k (length before) x below (let t = total in omega arith)
        (ap name (get_or_append_left before (x ∷ after) x k below) ∙ sym (get_or-map name before k x [] below) ∙ s ∙ ap name (sym here))))
