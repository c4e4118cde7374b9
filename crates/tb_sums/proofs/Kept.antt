-- Temperatures in 64 bits.
use Rattle.std.specs.Prelude.{unsigned_abs}
use Rattle.std.proofs.Common.{◌≡◌, ap, ◌∙◌, ℕ, ◌^◌, ◌≤◌, ℤ, pos, ◌-ℤ◌, arith, to_z, of_z}
use Rattle.std.proofs.lemmas.Int.{ints}
use Rattle.std.specs.Int.{w64}
use Rattle.tb_math.specs.Ceiling.{ceiling}
use Rattle.tb_terms.specs.Terms.{field_face_term}
use Rattle.tb_field.specs.Fields.{IsTemperature}
use Rattle.tb_sums.specs.Corners.{face_at}

pub level_kept : (z : ℤ) → IsTemperature z → to_z w64 (of_z w64 z) ≡ z
level_kept z h = omega (arith, ints, h.least, h.most)

pub rise_is : (r high low : ℤ) → IsTemperature high → IsTemperature low → r ≡ to_z w64 (of_z w64 high) -ℤ to_z w64 (of_z w64 low) → r ≡ high -ℤ low
rise_is r high low h l e = e ∙ ap (λ (z : ℤ). z -ℤ to_z w64 (of_z w64 low)) (level_kept high h) ∙ ap (λ (z : ℤ). high -ℤ z) (level_kept low l)

pub kept : (r e : ℤ) → unsigned_abs r ≤ 10 ^ 8 → r ≡ e → to_z w64 (of_z w64 r) ≡ e
kept r e s h = omega (arith, ints, h, s)

pub face_is : (p rs b c : ℕ) (d00 d10 d01 d11 e00 e10 e01 e11 : ℤ) → d00 ≡ e00 → d10 ≡ e10 → d01 ≡ e01 → d11 ≡ e11
    → unsigned_abs d00 ≤ 10 ^ 8 → unsigned_abs d10 ≤ 10 ^ 8 → unsigned_abs d01 ≤ 10 ^ 8 → unsigned_abs d11 ≤ 10 ^ 8
    → pos p ≡ ceiling (field_face_term (face_at rs b c (to_z w64 (of_z w64 d00)) (to_z w64 (of_z w64 d10)) (to_z w64 (of_z w64 d01)) (to_z w64 (of_z w64 d11)))) → pos p ≡ ceiling (field_face_term (face_at rs b c e00 e10 e01 e11))
face_is p rs b c d00 d10 d01 d11 e00 e10 e01 e11 h00 h10 h01 h11 s00 s10 s01 s11 h =
    h ∙ ap (λ (z : ℤ). ceiling (field_face_term (face_at rs b c z (to_z w64 (of_z w64 d10)) (to_z w64 (of_z w64 d01)) (to_z w64 (of_z w64 d11))))) (kept d00 e00 s00 h00)
    ∙ ap (λ (z : ℤ). ceiling (field_face_term (face_at rs b c e00 z (to_z w64 (of_z w64 d01)) (to_z w64 (of_z w64 d11))))) (kept d10 e10 s10 h10)
    ∙ ap (λ (z : ℤ). ceiling (field_face_term (face_at rs b c e00 e10 z (to_z w64 (of_z w64 d11))))) (kept d01 e01 s01 h01)
    ∙ ap (λ (z : ℤ). ceiling (field_face_term (face_at rs b c e00 e10 e01 z))) (kept d11 e11 s11 h11)
