-- What is answered of a part, from its bounds.
use Rattle.std.proofs.Common.{◌≡◌, refl, ap, ◌∙◌, sym, subst, ℕ, ◌*◌, ◌^◌, ◌<◌, ℤ, pos, ◌*ℤ◌, ◌<ℤ◌, ◌==◌, Bool, true, false, List, [], length, get_or, Some, None, Ok, Err, inl, inr, arith, to_z, of_z}
use Rattle.std.proofs.lemmas.Bool.{cases_Bool}
use Rattle.std.proofs.lemmas.Option.{get_or_from_slice_get}
use Rattle.std.proofs.lemmas.Float.{T_from_true}
use Rattle.std.proofs.lemmas.Int.{ints}
use Rattle.std.proofs.lemmas.List.{get_or_default}
use lib.Dec.{T}
use Rattle.std.proofs.lemmas.List.Sums.{position_or_len_is}
use Rattle.std.specs.Int.{w128}
use Rattle.std.specs.List.{position_or_len}
use Rattle.std.proofs.lemmas.Bool.Decides.{nat_tests}
use Rattle.std.specs.Prelude.{◌≢◌, ◌&&◌, not, int_lt, is_err, nat_lt, position, slice_get}
use Rattle.tb_detail.specs.declared.Detail.{Detail}
use Rattle.tb_detail.specs.declared.Part.{Part}
use Rattle.tb_planar.specs.declared.bounds.Bounds.{Bounds}
use Rattle.tb_planar.specs.Bounds.{IsTransmittance, over, plus}
use Rattle.tb_planar.specs.Printed.{IsRatioAbove, answer, error, is_ratio_above, lower_limit, relative_error, section_transmittance, transmittance, upper_limit}
use Rattle.tb_planar.specs.Sections.{sections}
use Rattle.tb_planar.specs.Transmittance as T
use Rattle.tb_math.specs.Division.{inverse}
use Rattle.tb_math.specs.Rational.{one_over, ◌+ℚ◌, ◌*ℚ◌}

pub of_one : (d : Detail) (p : Part) (lo hi : ℤ) → sections p ≡ 1 → lo ≡ (section_transmittance d p 0).low → hi ≡ (section_transmittance d p 0).high
    → Ok (record { u = record { lo = lo; hi = hi }; error = pos 0 }) ≡ answer d p
unfolding answer error is_ratio_above transmittance
of_one d p lo hi one e f = rw (one, e, f) refl

pub several : (p : Part) → sections p ≢ 1 → (sections p == 1) ≡ false
several p h = grind (arith, nat_tests)

pub refused : (d : Detail) (p : Part) → sections p ≢ 1 → int_lt (pos 3 *ℤ (lower_limit d p).high) (pos 2 *ℤ (upper_limit d p).low) ≡ true
    → Err (record {}) ≡ answer d p
unfolding answer is_ratio_above
refused d p h t = let s = several p h in rw (s, t) refl

pub accepted : (d : Detail) (p : Part) (u : Bounds) (lo hi e : ℤ) → sections p ≢ 1 → int_lt (pos 3 *ℤ (lower_limit d p).high) (pos 2 *ℤ (upper_limit d p).low) ≡ false
    → u ≡ over (pos (2 * 10 ^ 31)) (plus (upper_limit d p) (lower_limit d p)) → lo ≡ u.low → hi ≡ u.high → e ≡ relative_error (upper_limit d p) (lower_limit d p)
    → Ok (record { u = record { lo = lo; hi = hi }; error = e }) ≡ answer d p
unfolding answer error is_ratio_above transmittance
accepted d p u lo hi e h t value f g k = let s = several p h in rw (f, g, value, k, s, t) refl

-- a part is refused exactly where its ratio is above
pub refusal : (d : Detail) (p : Part) → is_err (answer d p) ≡ is_ratio_above d p
unfolding answer
refusal d p = elim (cases_Bool (is_ratio_above d p)) [
  | inl t ↦ rw t refl
  | inr f ↦ rw f refl
]

pub ratio_above : (d : Detail) (p : Part) → (is_ratio_above d p ≡ true → IsRatioAbove d p) × (IsRatioAbove d p → is_ratio_above d p ≡ true)
unfolding is_ratio_above
ratio_above d p = (
  λ t. let split = both_true (sections p) (pos 3 *ℤ (lower_limit d p).high) (pos 2 *ℤ (upper_limit d p).low) t in record { several = split.0; above = split.1 },
  λ h. let s = several p h.several in let l = less (pos 3 *ℤ (lower_limit d p).high) (pos 2 *ℤ (upper_limit d p).low) h.above in rw (s, l) refl,
)
  where
    both_true : (n : ℕ) (a b : ℤ) → (not (n == 1) && int_lt a b) ≡ true → (n ≢ 1) × (a <ℤ b)
    both_true n a b t = elim (cases_Bool (n == 1)) [
      | inl e ↦ absurd (cc (rw e at t))
      | inr f ↦ (λ h. cc (rw h at f), record { lt = T_from_true (int_lt a b) (rw f at t) })
    ]

    less : (a b : ℤ) → a <ℤ b → int_lt a b ≡ true
    less a b h = elim (cases_Bool (int_lt a b)) [
      | inl t ↦ t
      | inr f ↦ absurd (subst T f h.lt)
    ]

-- ---- the ends of a transmittance, as they are stored

pub stored_ends : (b : Bounds) → IsTransmittance b → (to_z w128 (of_z w128 b.low) ≡ b.low) × (to_z w128 (of_z w128 b.high) ≡ b.high)
stored_ends b h = (omega (arith, ints), omega (arith, ints))

-- ---- the exact transmittance

pub exact_one : (d : Detail) (p : Part) → sections p ≡ 1 → inverse (T.section_resistance d p 0) ≡ T.transmittance d p
unfolding T.transmittance T.total_resistance
exact_one d p one = rw one refl

pub exact_several : (d : Detail) (p : Part) → sections p ≢ 1 → inverse ((T.upper_limit d p +ℚ T.lower_limit d p) *ℚ one_over 2) ≡ T.transmittance d p
unfolding T.transmittance T.total_resistance
exact_several d p h = let s = several p h in rw s refl

-- ---- the first of a list

-- what stands past the last part
abbrev pub no_part : Part
no_part = record { name = []; rsi = 0; rse = 0; areas = []; layers = [] }

pub found : (test : Part → Bool) (xs : List Part) (i : ℕ) (d : Part) → i < length xs → ((k : ℕ) → k < i → test (get_or xs k d) ≡ false) → test (get_or xs i d) ≡ true
    → Some i ≡ position test xs
found test xs i d l before at =
    let is : position_or_len test xs ≡ i = position_or_len_is test xs i d (omega arith) before (λ b. at) in
    let t : nat_lt i (length xs) ≡ true = grind (arith, nat_tests) in rw (is, t) refl

pub none_found : (test : Part → Bool) (xs : List Part) (d : Part) → ((k : ℕ) → k < length xs → test (get_or xs k d) ≡ false) → None ≡ position test xs
none_found test xs d none =
    let is : position_or_len test xs ≡ length xs = position_or_len_is test xs (length xs) d (omega arith) none (λ b. absurd (omega arith)) in
    let f : nat_lt (length xs) (length xs) ≡ false = grind (arith, nat_tests) in rw (is, f) refl

-- the part in hand is the one in its place
pub in_place : (xs ys : List Part) (i k : ℕ) (x e : Part) → ys ≡ xs → k ≡ i → i < length ys → x ≡ get_or ys i x → get_or xs k e ≡ x
in_place xs ys i k x e h n l is = rw (n, ← h) (get_or_default ys i e x l ∙ sym is)

-- a place has one part
pub part_is : (xs ys : List Part) (n i : ℕ) (x p : Part) → ys ≡ xs → i ≡ n → x ≡ get_or ys i x → slice_get xs n ≡ Some p → x ≡ p
part_is xs ys n i x p e f is at = is ∙ ap (λ (t : List Part). get_or t i x) e ∙ ap (λ (k : ℕ). get_or xs k x) f ∙ get_or_from_slice_get xs n p x at
