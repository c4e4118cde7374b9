-- The bits of a mask's complement: of 2ⁿ - 1 - m, bit e below n is set just where it isn't set in m.
use mathlib.Core.Path.{◌≡◌, ap, ◌∙◌}
use Prim.Native.Nat.{ℕ, zero, suc, ◌+◌, ◌-◌, ◌*◌, ◌/◌, ◌%◌, ◌^◌, ◌<◌}
use native.Mathlib.Omega.{arith}
use lib.ListN.{length}
use Rattle.std.specs.Prelude.{◌==◌, not}
use Rattle.std.proofs.lemmas.Nat.{pow_pos, pow-add, div-mul-add, div-add-mod', div_below, mod_below}
use Rattle.tb_detail.specs.declared.Detail.{Detail}
use Rattle.tb_model.specs.Complements.{AreComplements}
use Rattle.tb_model.specs.Values.{case_of}

parity : (h u v : ℕ) → 2 * h ≡ u + 1 + v → v % 2 ≡ 1 - u % 2
parity h u v e = omega arith

opposite : (M m w h : ℕ) → 0 < w → M ≡ w * (2 * h) → m < M → ((M - 1 - m) / w) % 2 ≡ 1 - (m / w) % 2
opposite M m w h some is below =
    let split : m / w * w + m % w ≡ m = div-add-mod' m w in
    let rest : m % w < w = mod_below m w some in
    let few : m / w < 2 * h = div_below m w (2 * h) some (omega arith) in
    from_quotient (m / w) (m % w) (2 * h - 1 - m / w) split rest (omega arith)
  where
    from_quotient : (u r v : ℕ) → u * w + r ≡ m → r < w → 2 * h ≡ u + 1 + v → ((M - 1 - m) / w) % 2 ≡ 1 - u % 2
    from_quotient u r v split rest e =
        let whole : M ≡ w * (u + 1 + v) = is ∙ ap (λ (t : ℕ). w * t) e in
        let left : M - 1 - m ≡ v * w + (w - 1 - r) = omega arith in
        ap (λ (t : ℕ). (t / w) % 2) left ∙ ap (λ (t : ℕ). t % 2) (div-mul-add v w (w - 1 - r) (omega arith)) ∙ parity h u v e

unequal : (x y : ℕ) → y < 2 → x ≡ 1 - y → (x == 1) ≡ not (y == 1)
unequal x zero h e = ap (λ (t : ℕ). t == 1) e
unequal x (suc zero) h e = ap (λ (t : ℕ). t == 1) e
unequal x (suc (suc y)) h e = absurd (omega arith)

bit : (n m e : ℕ) → m < 2 ^ n → e < n → ((2 ^ n - 1 - m) / 2 ^ e) % 2 ≡ 1 - (m / 2 ^ e) % 2
bit n m e below inside =
    let upper : 2 ^ (e + (1 + (n - suc e))) ≡ 2 ^ e * 2 ^ (1 + (n - suc e)) = pow-add 2 e (1 + (n - suc e)) in
    let twice : 2 ^ (1 + (n - suc e)) ≡ 2 * 2 ^ (n - suc e) = pow-add 2 1 (n - suc e) in
    let size : n ≡ e + (1 + (n - suc e)) = omega arith in
    opposite (2 ^ n) m (2 ^ e) (2 ^ (n - suc e)) (pow_pos e) (ap (λ (t : ℕ). 2 ^ t) size ∙ upper ∙ ap (λ (t : ℕ). 2 ^ e * t) twice) below

pub masks_complement : (d : Detail) (mask : ℕ) → mask < 2 ^ length d.environments → AreComplements d (case_of mask) (case_of (2 ^ length d.environments - 1 - mask))
masks_complement d mask below e inside = unequal _ _ (mod_below (mask / 2 ^ e) 2 (omega arith)) (bit (length d.environments) mask e below inside)
