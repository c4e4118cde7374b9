-- What a cell or a face gives that has the node among its corners.
use mathlib.Core.Path.{◌≡◌, refl}
use mathlib.Core.List.{[], ◌∷◌}
use Prim.Native.Nat.{ℕ, suc}
use native.Mathlib.Omega.{arith}
use Rattle.std.proofs.Common.{◌≢◌}
use lib.IntN.{ℤ, pos, ◌+ℤ◌, ◌-ℤ◌, ◌*ℤ◌}
use Rattle.tb_math.proofs.ReadIntegers.{by_reading, reading}
use Rattle.tb_weighted.specs.Forms.{Spread3, only_at, bit, cell_part, cell_slope, face_slope, face_rate, form, cross, stencil, Beside}
use Rattle.tb_weighted.specs.Forms.Beside.{from_low, from_high}
use Rattle.tb_weighted.proofs.Local.{bit_same, bit_other}

slope_above_ll : (w b0 h0 b1 h1 b2 h2 b3 h3 x0 x1 y0 y1 z0 z1 : ℤ) → x0 ≡ pos 1 → x1 ≡ pos 0 → y0 ≡ pos 1 → y1 ≡ pos 0 → z0 ≡ pos 1 → z1 ≡ pos 0 → w *ℤ cross (h0 -ℤ b0) (h1 -ℤ b1) (h2 -ℤ b2) (h3 -ℤ b3) (x1 *ℤ (y0 *ℤ z0) -ℤ x0 *ℤ (y0 *ℤ z0)) (x1 *ℤ (y1 *ℤ z0) -ℤ x0 *ℤ (y1 *ℤ z0)) (x1 *ℤ (y0 *ℤ z1) -ℤ x0 *ℤ (y0 *ℤ z1)) (x1 *ℤ (y1 *ℤ z1) -ℤ x0 *ℤ (y1 *ℤ z1)) ≡ w *ℤ ((pos 8 *ℤ b0 +ℤ pos 4 *ℤ b1 +ℤ pos 4 *ℤ b2 +ℤ pos 2 *ℤ b3) -ℤ (pos 8 *ℤ h0 +ℤ pos 4 *ℤ h1 +ℤ pos 4 *ℤ h2 +ℤ pos 2 *ℤ h3))
slope_above_ll w b0 h0 b1 h1 b2 h2 b3 h3 x0 x1 y0 y1 z0 z1 e0 e1 e2 e3 e4 e5 = rw (e0, e1, e2, e3, e4, e5) (by_reading {atoms = w ∷ b0 ∷ h0 ∷ b1 ∷ h1 ∷ b2 ∷ h2 ∷ b3 ∷ h3 ∷ []} (search reading depth 60 fits 100000) (search reading depth 60 fits 100000) refl)

rate_above_ll : (w x0 x1 y0 y1 z0 z1 : ℤ) → x0 ≡ pos 1 → x1 ≡ pos 0 → y0 ≡ pos 1 → y1 ≡ pos 0 → z0 ≡ pos 1 → z1 ≡ pos 0 → w *ℤ form (x1 *ℤ (y0 *ℤ z0) -ℤ x0 *ℤ (y0 *ℤ z0)) (x1 *ℤ (y1 *ℤ z0) -ℤ x0 *ℤ (y1 *ℤ z0)) (x1 *ℤ (y0 *ℤ z1) -ℤ x0 *ℤ (y0 *ℤ z1)) (x1 *ℤ (y1 *ℤ z1) -ℤ x0 *ℤ (y1 *ℤ z1)) ≡ pos 4 *ℤ w
rate_above_ll w x0 x1 y0 y1 z0 z1 e0 e1 e2 e3 e4 e5 = rw (e0, e1, e2, e3, e4, e5) (by_reading {atoms = w ∷ []} (search reading depth 60 fits 100000) (search reading depth 60 fits 100000) refl)

slope_below_ll : (w b0 h0 b1 h1 b2 h2 b3 h3 x0 x1 y0 y1 z0 z1 : ℤ) → x0 ≡ pos 0 → x1 ≡ pos 1 → y0 ≡ pos 1 → y1 ≡ pos 0 → z0 ≡ pos 1 → z1 ≡ pos 0 → w *ℤ cross (h0 -ℤ b0) (h1 -ℤ b1) (h2 -ℤ b2) (h3 -ℤ b3) (x1 *ℤ (y0 *ℤ z0) -ℤ x0 *ℤ (y0 *ℤ z0)) (x1 *ℤ (y1 *ℤ z0) -ℤ x0 *ℤ (y1 *ℤ z0)) (x1 *ℤ (y0 *ℤ z1) -ℤ x0 *ℤ (y0 *ℤ z1)) (x1 *ℤ (y1 *ℤ z1) -ℤ x0 *ℤ (y1 *ℤ z1)) ≡ w *ℤ ((pos 8 *ℤ h0 +ℤ pos 4 *ℤ h1 +ℤ pos 4 *ℤ h2 +ℤ pos 2 *ℤ h3) -ℤ (pos 8 *ℤ b0 +ℤ pos 4 *ℤ b1 +ℤ pos 4 *ℤ b2 +ℤ pos 2 *ℤ b3))
slope_below_ll w b0 h0 b1 h1 b2 h2 b3 h3 x0 x1 y0 y1 z0 z1 e0 e1 e2 e3 e4 e5 = rw (e0, e1, e2, e3, e4, e5) (by_reading {atoms = w ∷ b0 ∷ h0 ∷ b1 ∷ h1 ∷ b2 ∷ h2 ∷ b3 ∷ h3 ∷ []} (search reading depth 60 fits 100000) (search reading depth 60 fits 100000) refl)

rate_below_ll : (w x0 x1 y0 y1 z0 z1 : ℤ) → x0 ≡ pos 0 → x1 ≡ pos 1 → y0 ≡ pos 1 → y1 ≡ pos 0 → z0 ≡ pos 1 → z1 ≡ pos 0 → w *ℤ form (x1 *ℤ (y0 *ℤ z0) -ℤ x0 *ℤ (y0 *ℤ z0)) (x1 *ℤ (y1 *ℤ z0) -ℤ x0 *ℤ (y1 *ℤ z0)) (x1 *ℤ (y0 *ℤ z1) -ℤ x0 *ℤ (y0 *ℤ z1)) (x1 *ℤ (y1 *ℤ z1) -ℤ x0 *ℤ (y1 *ℤ z1)) ≡ pos 4 *ℤ w
rate_below_ll w x0 x1 y0 y1 z0 z1 e0 e1 e2 e3 e4 e5 = rw (e0, e1, e2, e3, e4, e5) (by_reading {atoms = w ∷ []} (search reading depth 60 fits 100000) (search reading depth 60 fits 100000) refl)

slope_at_ll : (w v0 v1 v2 v3 l x y0 y1 z0 z1 : ℤ) → x ≡ pos 1 → y0 ≡ pos 1 → y1 ≡ pos 0 → z0 ≡ pos 1 → z1 ≡ pos 0 → w *ℤ cross (v0 -ℤ l) (v1 -ℤ l) (v2 -ℤ l) (v3 -ℤ l) (x *ℤ (y0 *ℤ z0)) (x *ℤ (y1 *ℤ z0)) (x *ℤ (y0 *ℤ z1)) (x *ℤ (y1 *ℤ z1)) ≡ w *ℤ ((pos 8 *ℤ v0 +ℤ pos 4 *ℤ v1 +ℤ pos 4 *ℤ v2 +ℤ pos 2 *ℤ v3) -ℤ pos 18 *ℤ l)
slope_at_ll w v0 v1 v2 v3 l x y0 y1 z0 z1 e0 e1 e2 e3 e4 = rw (e0, e1, e2, e3, e4) (by_reading {atoms = w ∷ v0 ∷ v1 ∷ v2 ∷ v3 ∷ l ∷ []} (search reading depth 60 fits 100000) (search reading depth 60 fits 100000) refl)

rate_at_ll : (w x y0 y1 z0 z1 : ℤ) → x ≡ pos 1 → y0 ≡ pos 1 → y1 ≡ pos 0 → z0 ≡ pos 1 → z1 ≡ pos 0 → w *ℤ form (x *ℤ (y0 *ℤ z0)) (x *ℤ (y1 *ℤ z0)) (x *ℤ (y0 *ℤ z1)) (x *ℤ (y1 *ℤ z1)) ≡ pos 4 *ℤ w
rate_at_ll w x y0 y1 z0 z1 e0 e1 e2 e3 e4 = rw (e0, e1, e2, e3, e4) (by_reading {atoms = w ∷ []} (search reading depth 60 fits 100000) (search reading depth 60 fits 100000) refl)

slope_above_hl : (w b0 h0 b1 h1 b2 h2 b3 h3 x0 x1 y0 y1 z0 z1 : ℤ) → x0 ≡ pos 1 → x1 ≡ pos 0 → y0 ≡ pos 0 → y1 ≡ pos 1 → z0 ≡ pos 1 → z1 ≡ pos 0 → w *ℤ cross (h0 -ℤ b0) (h1 -ℤ b1) (h2 -ℤ b2) (h3 -ℤ b3) (x1 *ℤ (y0 *ℤ z0) -ℤ x0 *ℤ (y0 *ℤ z0)) (x1 *ℤ (y1 *ℤ z0) -ℤ x0 *ℤ (y1 *ℤ z0)) (x1 *ℤ (y0 *ℤ z1) -ℤ x0 *ℤ (y0 *ℤ z1)) (x1 *ℤ (y1 *ℤ z1) -ℤ x0 *ℤ (y1 *ℤ z1)) ≡ w *ℤ ((pos 8 *ℤ b1 +ℤ pos 4 *ℤ b0 +ℤ pos 4 *ℤ b3 +ℤ pos 2 *ℤ b2) -ℤ (pos 8 *ℤ h1 +ℤ pos 4 *ℤ h0 +ℤ pos 4 *ℤ h3 +ℤ pos 2 *ℤ h2))
slope_above_hl w b0 h0 b1 h1 b2 h2 b3 h3 x0 x1 y0 y1 z0 z1 e0 e1 e2 e3 e4 e5 = rw (e0, e1, e2, e3, e4, e5) (by_reading {atoms = w ∷ b0 ∷ h0 ∷ b1 ∷ h1 ∷ b2 ∷ h2 ∷ b3 ∷ h3 ∷ []} (search reading depth 60 fits 100000) (search reading depth 60 fits 100000) refl)

rate_above_hl : (w x0 x1 y0 y1 z0 z1 : ℤ) → x0 ≡ pos 1 → x1 ≡ pos 0 → y0 ≡ pos 0 → y1 ≡ pos 1 → z0 ≡ pos 1 → z1 ≡ pos 0 → w *ℤ form (x1 *ℤ (y0 *ℤ z0) -ℤ x0 *ℤ (y0 *ℤ z0)) (x1 *ℤ (y1 *ℤ z0) -ℤ x0 *ℤ (y1 *ℤ z0)) (x1 *ℤ (y0 *ℤ z1) -ℤ x0 *ℤ (y0 *ℤ z1)) (x1 *ℤ (y1 *ℤ z1) -ℤ x0 *ℤ (y1 *ℤ z1)) ≡ pos 4 *ℤ w
rate_above_hl w x0 x1 y0 y1 z0 z1 e0 e1 e2 e3 e4 e5 = rw (e0, e1, e2, e3, e4, e5) (by_reading {atoms = w ∷ []} (search reading depth 60 fits 100000) (search reading depth 60 fits 100000) refl)

slope_below_hl : (w b0 h0 b1 h1 b2 h2 b3 h3 x0 x1 y0 y1 z0 z1 : ℤ) → x0 ≡ pos 0 → x1 ≡ pos 1 → y0 ≡ pos 0 → y1 ≡ pos 1 → z0 ≡ pos 1 → z1 ≡ pos 0 → w *ℤ cross (h0 -ℤ b0) (h1 -ℤ b1) (h2 -ℤ b2) (h3 -ℤ b3) (x1 *ℤ (y0 *ℤ z0) -ℤ x0 *ℤ (y0 *ℤ z0)) (x1 *ℤ (y1 *ℤ z0) -ℤ x0 *ℤ (y1 *ℤ z0)) (x1 *ℤ (y0 *ℤ z1) -ℤ x0 *ℤ (y0 *ℤ z1)) (x1 *ℤ (y1 *ℤ z1) -ℤ x0 *ℤ (y1 *ℤ z1)) ≡ w *ℤ ((pos 8 *ℤ h1 +ℤ pos 4 *ℤ h0 +ℤ pos 4 *ℤ h3 +ℤ pos 2 *ℤ h2) -ℤ (pos 8 *ℤ b1 +ℤ pos 4 *ℤ b0 +ℤ pos 4 *ℤ b3 +ℤ pos 2 *ℤ b2))
slope_below_hl w b0 h0 b1 h1 b2 h2 b3 h3 x0 x1 y0 y1 z0 z1 e0 e1 e2 e3 e4 e5 = rw (e0, e1, e2, e3, e4, e5) (by_reading {atoms = w ∷ b0 ∷ h0 ∷ b1 ∷ h1 ∷ b2 ∷ h2 ∷ b3 ∷ h3 ∷ []} (search reading depth 60 fits 100000) (search reading depth 60 fits 100000) refl)

rate_below_hl : (w x0 x1 y0 y1 z0 z1 : ℤ) → x0 ≡ pos 0 → x1 ≡ pos 1 → y0 ≡ pos 0 → y1 ≡ pos 1 → z0 ≡ pos 1 → z1 ≡ pos 0 → w *ℤ form (x1 *ℤ (y0 *ℤ z0) -ℤ x0 *ℤ (y0 *ℤ z0)) (x1 *ℤ (y1 *ℤ z0) -ℤ x0 *ℤ (y1 *ℤ z0)) (x1 *ℤ (y0 *ℤ z1) -ℤ x0 *ℤ (y0 *ℤ z1)) (x1 *ℤ (y1 *ℤ z1) -ℤ x0 *ℤ (y1 *ℤ z1)) ≡ pos 4 *ℤ w
rate_below_hl w x0 x1 y0 y1 z0 z1 e0 e1 e2 e3 e4 e5 = rw (e0, e1, e2, e3, e4, e5) (by_reading {atoms = w ∷ []} (search reading depth 60 fits 100000) (search reading depth 60 fits 100000) refl)

slope_at_hl : (w v0 v1 v2 v3 l x y0 y1 z0 z1 : ℤ) → x ≡ pos 1 → y0 ≡ pos 0 → y1 ≡ pos 1 → z0 ≡ pos 1 → z1 ≡ pos 0 → w *ℤ cross (v0 -ℤ l) (v1 -ℤ l) (v2 -ℤ l) (v3 -ℤ l) (x *ℤ (y0 *ℤ z0)) (x *ℤ (y1 *ℤ z0)) (x *ℤ (y0 *ℤ z1)) (x *ℤ (y1 *ℤ z1)) ≡ w *ℤ ((pos 8 *ℤ v1 +ℤ pos 4 *ℤ v0 +ℤ pos 4 *ℤ v3 +ℤ pos 2 *ℤ v2) -ℤ pos 18 *ℤ l)
slope_at_hl w v0 v1 v2 v3 l x y0 y1 z0 z1 e0 e1 e2 e3 e4 = rw (e0, e1, e2, e3, e4) (by_reading {atoms = w ∷ v0 ∷ v1 ∷ v2 ∷ v3 ∷ l ∷ []} (search reading depth 60 fits 100000) (search reading depth 60 fits 100000) refl)

rate_at_hl : (w x y0 y1 z0 z1 : ℤ) → x ≡ pos 1 → y0 ≡ pos 0 → y1 ≡ pos 1 → z0 ≡ pos 1 → z1 ≡ pos 0 → w *ℤ form (x *ℤ (y0 *ℤ z0)) (x *ℤ (y1 *ℤ z0)) (x *ℤ (y0 *ℤ z1)) (x *ℤ (y1 *ℤ z1)) ≡ pos 4 *ℤ w
rate_at_hl w x y0 y1 z0 z1 e0 e1 e2 e3 e4 = rw (e0, e1, e2, e3, e4) (by_reading {atoms = w ∷ []} (search reading depth 60 fits 100000) (search reading depth 60 fits 100000) refl)

slope_above_lh : (w b0 h0 b1 h1 b2 h2 b3 h3 x0 x1 y0 y1 z0 z1 : ℤ) → x0 ≡ pos 1 → x1 ≡ pos 0 → y0 ≡ pos 1 → y1 ≡ pos 0 → z0 ≡ pos 0 → z1 ≡ pos 1 → w *ℤ cross (h0 -ℤ b0) (h1 -ℤ b1) (h2 -ℤ b2) (h3 -ℤ b3) (x1 *ℤ (y0 *ℤ z0) -ℤ x0 *ℤ (y0 *ℤ z0)) (x1 *ℤ (y1 *ℤ z0) -ℤ x0 *ℤ (y1 *ℤ z0)) (x1 *ℤ (y0 *ℤ z1) -ℤ x0 *ℤ (y0 *ℤ z1)) (x1 *ℤ (y1 *ℤ z1) -ℤ x0 *ℤ (y1 *ℤ z1)) ≡ w *ℤ ((pos 8 *ℤ b2 +ℤ pos 4 *ℤ b3 +ℤ pos 4 *ℤ b0 +ℤ pos 2 *ℤ b1) -ℤ (pos 8 *ℤ h2 +ℤ pos 4 *ℤ h3 +ℤ pos 4 *ℤ h0 +ℤ pos 2 *ℤ h1))
slope_above_lh w b0 h0 b1 h1 b2 h2 b3 h3 x0 x1 y0 y1 z0 z1 e0 e1 e2 e3 e4 e5 = rw (e0, e1, e2, e3, e4, e5) (by_reading {atoms = w ∷ b0 ∷ h0 ∷ b1 ∷ h1 ∷ b2 ∷ h2 ∷ b3 ∷ h3 ∷ []} (search reading depth 60 fits 100000) (search reading depth 60 fits 100000) refl)

rate_above_lh : (w x0 x1 y0 y1 z0 z1 : ℤ) → x0 ≡ pos 1 → x1 ≡ pos 0 → y0 ≡ pos 1 → y1 ≡ pos 0 → z0 ≡ pos 0 → z1 ≡ pos 1 → w *ℤ form (x1 *ℤ (y0 *ℤ z0) -ℤ x0 *ℤ (y0 *ℤ z0)) (x1 *ℤ (y1 *ℤ z0) -ℤ x0 *ℤ (y1 *ℤ z0)) (x1 *ℤ (y0 *ℤ z1) -ℤ x0 *ℤ (y0 *ℤ z1)) (x1 *ℤ (y1 *ℤ z1) -ℤ x0 *ℤ (y1 *ℤ z1)) ≡ pos 4 *ℤ w
rate_above_lh w x0 x1 y0 y1 z0 z1 e0 e1 e2 e3 e4 e5 = rw (e0, e1, e2, e3, e4, e5) (by_reading {atoms = w ∷ []} (search reading depth 60 fits 100000) (search reading depth 60 fits 100000) refl)

slope_below_lh : (w b0 h0 b1 h1 b2 h2 b3 h3 x0 x1 y0 y1 z0 z1 : ℤ) → x0 ≡ pos 0 → x1 ≡ pos 1 → y0 ≡ pos 1 → y1 ≡ pos 0 → z0 ≡ pos 0 → z1 ≡ pos 1 → w *ℤ cross (h0 -ℤ b0) (h1 -ℤ b1) (h2 -ℤ b2) (h3 -ℤ b3) (x1 *ℤ (y0 *ℤ z0) -ℤ x0 *ℤ (y0 *ℤ z0)) (x1 *ℤ (y1 *ℤ z0) -ℤ x0 *ℤ (y1 *ℤ z0)) (x1 *ℤ (y0 *ℤ z1) -ℤ x0 *ℤ (y0 *ℤ z1)) (x1 *ℤ (y1 *ℤ z1) -ℤ x0 *ℤ (y1 *ℤ z1)) ≡ w *ℤ ((pos 8 *ℤ h2 +ℤ pos 4 *ℤ h3 +ℤ pos 4 *ℤ h0 +ℤ pos 2 *ℤ h1) -ℤ (pos 8 *ℤ b2 +ℤ pos 4 *ℤ b3 +ℤ pos 4 *ℤ b0 +ℤ pos 2 *ℤ b1))
slope_below_lh w b0 h0 b1 h1 b2 h2 b3 h3 x0 x1 y0 y1 z0 z1 e0 e1 e2 e3 e4 e5 = rw (e0, e1, e2, e3, e4, e5) (by_reading {atoms = w ∷ b0 ∷ h0 ∷ b1 ∷ h1 ∷ b2 ∷ h2 ∷ b3 ∷ h3 ∷ []} (search reading depth 60 fits 100000) (search reading depth 60 fits 100000) refl)

rate_below_lh : (w x0 x1 y0 y1 z0 z1 : ℤ) → x0 ≡ pos 0 → x1 ≡ pos 1 → y0 ≡ pos 1 → y1 ≡ pos 0 → z0 ≡ pos 0 → z1 ≡ pos 1 → w *ℤ form (x1 *ℤ (y0 *ℤ z0) -ℤ x0 *ℤ (y0 *ℤ z0)) (x1 *ℤ (y1 *ℤ z0) -ℤ x0 *ℤ (y1 *ℤ z0)) (x1 *ℤ (y0 *ℤ z1) -ℤ x0 *ℤ (y0 *ℤ z1)) (x1 *ℤ (y1 *ℤ z1) -ℤ x0 *ℤ (y1 *ℤ z1)) ≡ pos 4 *ℤ w
rate_below_lh w x0 x1 y0 y1 z0 z1 e0 e1 e2 e3 e4 e5 = rw (e0, e1, e2, e3, e4, e5) (by_reading {atoms = w ∷ []} (search reading depth 60 fits 100000) (search reading depth 60 fits 100000) refl)

slope_at_lh : (w v0 v1 v2 v3 l x y0 y1 z0 z1 : ℤ) → x ≡ pos 1 → y0 ≡ pos 1 → y1 ≡ pos 0 → z0 ≡ pos 0 → z1 ≡ pos 1 → w *ℤ cross (v0 -ℤ l) (v1 -ℤ l) (v2 -ℤ l) (v3 -ℤ l) (x *ℤ (y0 *ℤ z0)) (x *ℤ (y1 *ℤ z0)) (x *ℤ (y0 *ℤ z1)) (x *ℤ (y1 *ℤ z1)) ≡ w *ℤ ((pos 8 *ℤ v2 +ℤ pos 4 *ℤ v3 +ℤ pos 4 *ℤ v0 +ℤ pos 2 *ℤ v1) -ℤ pos 18 *ℤ l)
slope_at_lh w v0 v1 v2 v3 l x y0 y1 z0 z1 e0 e1 e2 e3 e4 = rw (e0, e1, e2, e3, e4) (by_reading {atoms = w ∷ v0 ∷ v1 ∷ v2 ∷ v3 ∷ l ∷ []} (search reading depth 60 fits 100000) (search reading depth 60 fits 100000) refl)

rate_at_lh : (w x y0 y1 z0 z1 : ℤ) → x ≡ pos 1 → y0 ≡ pos 1 → y1 ≡ pos 0 → z0 ≡ pos 0 → z1 ≡ pos 1 → w *ℤ form (x *ℤ (y0 *ℤ z0)) (x *ℤ (y1 *ℤ z0)) (x *ℤ (y0 *ℤ z1)) (x *ℤ (y1 *ℤ z1)) ≡ pos 4 *ℤ w
rate_at_lh w x y0 y1 z0 z1 e0 e1 e2 e3 e4 = rw (e0, e1, e2, e3, e4) (by_reading {atoms = w ∷ []} (search reading depth 60 fits 100000) (search reading depth 60 fits 100000) refl)

slope_above_hh : (w b0 h0 b1 h1 b2 h2 b3 h3 x0 x1 y0 y1 z0 z1 : ℤ) → x0 ≡ pos 1 → x1 ≡ pos 0 → y0 ≡ pos 0 → y1 ≡ pos 1 → z0 ≡ pos 0 → z1 ≡ pos 1 → w *ℤ cross (h0 -ℤ b0) (h1 -ℤ b1) (h2 -ℤ b2) (h3 -ℤ b3) (x1 *ℤ (y0 *ℤ z0) -ℤ x0 *ℤ (y0 *ℤ z0)) (x1 *ℤ (y1 *ℤ z0) -ℤ x0 *ℤ (y1 *ℤ z0)) (x1 *ℤ (y0 *ℤ z1) -ℤ x0 *ℤ (y0 *ℤ z1)) (x1 *ℤ (y1 *ℤ z1) -ℤ x0 *ℤ (y1 *ℤ z1)) ≡ w *ℤ ((pos 8 *ℤ b3 +ℤ pos 4 *ℤ b2 +ℤ pos 4 *ℤ b1 +ℤ pos 2 *ℤ b0) -ℤ (pos 8 *ℤ h3 +ℤ pos 4 *ℤ h2 +ℤ pos 4 *ℤ h1 +ℤ pos 2 *ℤ h0))
slope_above_hh w b0 h0 b1 h1 b2 h2 b3 h3 x0 x1 y0 y1 z0 z1 e0 e1 e2 e3 e4 e5 = rw (e0, e1, e2, e3, e4, e5) (by_reading {atoms = w ∷ b0 ∷ h0 ∷ b1 ∷ h1 ∷ b2 ∷ h2 ∷ b3 ∷ h3 ∷ []} (search reading depth 60 fits 100000) (search reading depth 60 fits 100000) refl)

rate_above_hh : (w x0 x1 y0 y1 z0 z1 : ℤ) → x0 ≡ pos 1 → x1 ≡ pos 0 → y0 ≡ pos 0 → y1 ≡ pos 1 → z0 ≡ pos 0 → z1 ≡ pos 1 → w *ℤ form (x1 *ℤ (y0 *ℤ z0) -ℤ x0 *ℤ (y0 *ℤ z0)) (x1 *ℤ (y1 *ℤ z0) -ℤ x0 *ℤ (y1 *ℤ z0)) (x1 *ℤ (y0 *ℤ z1) -ℤ x0 *ℤ (y0 *ℤ z1)) (x1 *ℤ (y1 *ℤ z1) -ℤ x0 *ℤ (y1 *ℤ z1)) ≡ pos 4 *ℤ w
rate_above_hh w x0 x1 y0 y1 z0 z1 e0 e1 e2 e3 e4 e5 = rw (e0, e1, e2, e3, e4, e5) (by_reading {atoms = w ∷ []} (search reading depth 60 fits 100000) (search reading depth 60 fits 100000) refl)

slope_below_hh : (w b0 h0 b1 h1 b2 h2 b3 h3 x0 x1 y0 y1 z0 z1 : ℤ) → x0 ≡ pos 0 → x1 ≡ pos 1 → y0 ≡ pos 0 → y1 ≡ pos 1 → z0 ≡ pos 0 → z1 ≡ pos 1 → w *ℤ cross (h0 -ℤ b0) (h1 -ℤ b1) (h2 -ℤ b2) (h3 -ℤ b3) (x1 *ℤ (y0 *ℤ z0) -ℤ x0 *ℤ (y0 *ℤ z0)) (x1 *ℤ (y1 *ℤ z0) -ℤ x0 *ℤ (y1 *ℤ z0)) (x1 *ℤ (y0 *ℤ z1) -ℤ x0 *ℤ (y0 *ℤ z1)) (x1 *ℤ (y1 *ℤ z1) -ℤ x0 *ℤ (y1 *ℤ z1)) ≡ w *ℤ ((pos 8 *ℤ h3 +ℤ pos 4 *ℤ h2 +ℤ pos 4 *ℤ h1 +ℤ pos 2 *ℤ h0) -ℤ (pos 8 *ℤ b3 +ℤ pos 4 *ℤ b2 +ℤ pos 4 *ℤ b1 +ℤ pos 2 *ℤ b0))
slope_below_hh w b0 h0 b1 h1 b2 h2 b3 h3 x0 x1 y0 y1 z0 z1 e0 e1 e2 e3 e4 e5 = rw (e0, e1, e2, e3, e4, e5) (by_reading {atoms = w ∷ b0 ∷ h0 ∷ b1 ∷ h1 ∷ b2 ∷ h2 ∷ b3 ∷ h3 ∷ []} (search reading depth 60 fits 100000) (search reading depth 60 fits 100000) refl)

rate_below_hh : (w x0 x1 y0 y1 z0 z1 : ℤ) → x0 ≡ pos 0 → x1 ≡ pos 1 → y0 ≡ pos 0 → y1 ≡ pos 1 → z0 ≡ pos 0 → z1 ≡ pos 1 → w *ℤ form (x1 *ℤ (y0 *ℤ z0) -ℤ x0 *ℤ (y0 *ℤ z0)) (x1 *ℤ (y1 *ℤ z0) -ℤ x0 *ℤ (y1 *ℤ z0)) (x1 *ℤ (y0 *ℤ z1) -ℤ x0 *ℤ (y0 *ℤ z1)) (x1 *ℤ (y1 *ℤ z1) -ℤ x0 *ℤ (y1 *ℤ z1)) ≡ pos 4 *ℤ w
rate_below_hh w x0 x1 y0 y1 z0 z1 e0 e1 e2 e3 e4 e5 = rw (e0, e1, e2, e3, e4, e5) (by_reading {atoms = w ∷ []} (search reading depth 60 fits 100000) (search reading depth 60 fits 100000) refl)

slope_at_hh : (w v0 v1 v2 v3 l x y0 y1 z0 z1 : ℤ) → x ≡ pos 1 → y0 ≡ pos 0 → y1 ≡ pos 1 → z0 ≡ pos 0 → z1 ≡ pos 1 → w *ℤ cross (v0 -ℤ l) (v1 -ℤ l) (v2 -ℤ l) (v3 -ℤ l) (x *ℤ (y0 *ℤ z0)) (x *ℤ (y1 *ℤ z0)) (x *ℤ (y0 *ℤ z1)) (x *ℤ (y1 *ℤ z1)) ≡ w *ℤ ((pos 8 *ℤ v3 +ℤ pos 4 *ℤ v2 +ℤ pos 4 *ℤ v1 +ℤ pos 2 *ℤ v0) -ℤ pos 18 *ℤ l)
slope_at_hh w v0 v1 v2 v3 l x y0 y1 z0 z1 e0 e1 e2 e3 e4 = rw (e0, e1, e2, e3, e4) (by_reading {atoms = w ∷ v0 ∷ v1 ∷ v2 ∷ v3 ∷ l ∷ []} (search reading depth 60 fits 100000) (search reading depth 60 fits 100000) refl)

rate_at_hh : (w x y0 y1 z0 z1 : ℤ) → x ≡ pos 1 → y0 ≡ pos 0 → y1 ≡ pos 1 → z0 ≡ pos 0 → z1 ≡ pos 1 → w *ℤ form (x *ℤ (y0 *ℤ z0)) (x *ℤ (y1 *ℤ z0)) (x *ℤ (y0 *ℤ z1)) (x *ℤ (y1 *ℤ z1)) ≡ pos 4 *ℤ w
rate_at_hh w x y0 y1 z0 z1 e0 e1 e2 e3 e4 = rw (e0, e1, e2, e3, e4) (by_reading {atoms = w ∷ []} (search reading depth 60 fits 100000) (search reading depth 60 fits 100000) refl)

next_other : (q : ℕ) → suc q ≢ q
next_other q e = absurd (omega (arith, e))

own_other : (q : ℕ) → q ≢ suc q
own_other q e = absurd (omega (arith, e))

module _ (w s l g : Spread3) where
  pub above_slope : (p q j q' r k r' : ℕ) → Beside q j q' → Beside r k r' → cell_slope w g (only_at p q r) p j k ≡ w p j k *ℤ (stencil g p q r q' r' -ℤ stencil g (suc p) q r q' r')
  above_slope p q _ q' r _ r' (from_low j) (from_low k) = slope_above_ll (w p j k) (g p j k) (g (suc p) j k) (g p (suc j) k) (g (suc p) (suc j) k) (g p j (suc k)) (g (suc p) j (suc k)) (g p (suc j) (suc k)) (g (suc p) (suc j) (suc k)) (bit p p) (bit (suc p) p) (bit j j) (bit (suc j) j) (bit k k) (bit (suc k) k) (bit_same p) (bit_other (suc p) p (next_other p)) (bit_same j) (bit_other (suc j) j (next_other j)) (bit_same k) (bit_other (suc k) k (next_other k))
  above_slope p q _ q' r _ r' (from_high j) (from_low k) = slope_above_hl (w p j k) (g p j k) (g (suc p) j k) (g p (suc j) k) (g (suc p) (suc j) k) (g p j (suc k)) (g (suc p) j (suc k)) (g p (suc j) (suc k)) (g (suc p) (suc j) (suc k)) (bit p p) (bit (suc p) p) (bit j (suc j)) (bit (suc j) (suc j)) (bit k k) (bit (suc k) k) (bit_same p) (bit_other (suc p) p (next_other p)) (bit_other j (suc j) (own_other j)) (bit_same (suc j)) (bit_same k) (bit_other (suc k) k (next_other k))
  above_slope p q _ q' r _ r' (from_low j) (from_high k) = slope_above_lh (w p j k) (g p j k) (g (suc p) j k) (g p (suc j) k) (g (suc p) (suc j) k) (g p j (suc k)) (g (suc p) j (suc k)) (g p (suc j) (suc k)) (g (suc p) (suc j) (suc k)) (bit p p) (bit (suc p) p) (bit j j) (bit (suc j) j) (bit k (suc k)) (bit (suc k) (suc k)) (bit_same p) (bit_other (suc p) p (next_other p)) (bit_same j) (bit_other (suc j) j (next_other j)) (bit_other k (suc k) (own_other k)) (bit_same (suc k))
  above_slope p q _ q' r _ r' (from_high j) (from_high k) = slope_above_hh (w p j k) (g p j k) (g (suc p) j k) (g p (suc j) k) (g (suc p) (suc j) k) (g p j (suc k)) (g (suc p) j (suc k)) (g p (suc j) (suc k)) (g (suc p) (suc j) (suc k)) (bit p p) (bit (suc p) p) (bit j (suc j)) (bit (suc j) (suc j)) (bit k (suc k)) (bit (suc k) (suc k)) (bit_same p) (bit_other (suc p) p (next_other p)) (bit_other j (suc j) (own_other j)) (bit_same (suc j)) (bit_other k (suc k) (own_other k)) (bit_same (suc k))

  pub below_slope : (p q j q' r k r' : ℕ) → Beside q j q' → Beside r k r' → cell_slope w g (only_at (suc p) q r) p j k ≡ w p j k *ℤ (stencil g (suc p) q r q' r' -ℤ stencil g p q r q' r')
  below_slope p q _ q' r _ r' (from_low j) (from_low k) = slope_below_ll (w p j k) (g p j k) (g (suc p) j k) (g p (suc j) k) (g (suc p) (suc j) k) (g p j (suc k)) (g (suc p) j (suc k)) (g p (suc j) (suc k)) (g (suc p) (suc j) (suc k)) (bit p (suc p)) (bit (suc p) (suc p)) (bit j j) (bit (suc j) j) (bit k k) (bit (suc k) k) (bit_other p (suc p) (own_other p)) (bit_same (suc p)) (bit_same j) (bit_other (suc j) j (next_other j)) (bit_same k) (bit_other (suc k) k (next_other k))
  below_slope p q _ q' r _ r' (from_high j) (from_low k) = slope_below_hl (w p j k) (g p j k) (g (suc p) j k) (g p (suc j) k) (g (suc p) (suc j) k) (g p j (suc k)) (g (suc p) j (suc k)) (g p (suc j) (suc k)) (g (suc p) (suc j) (suc k)) (bit p (suc p)) (bit (suc p) (suc p)) (bit j (suc j)) (bit (suc j) (suc j)) (bit k k) (bit (suc k) k) (bit_other p (suc p) (own_other p)) (bit_same (suc p)) (bit_other j (suc j) (own_other j)) (bit_same (suc j)) (bit_same k) (bit_other (suc k) k (next_other k))
  below_slope p q _ q' r _ r' (from_low j) (from_high k) = slope_below_lh (w p j k) (g p j k) (g (suc p) j k) (g p (suc j) k) (g (suc p) (suc j) k) (g p j (suc k)) (g (suc p) j (suc k)) (g p (suc j) (suc k)) (g (suc p) (suc j) (suc k)) (bit p (suc p)) (bit (suc p) (suc p)) (bit j j) (bit (suc j) j) (bit k (suc k)) (bit (suc k) (suc k)) (bit_other p (suc p) (own_other p)) (bit_same (suc p)) (bit_same j) (bit_other (suc j) j (next_other j)) (bit_other k (suc k) (own_other k)) (bit_same (suc k))
  below_slope p q _ q' r _ r' (from_high j) (from_high k) = slope_below_hh (w p j k) (g p j k) (g (suc p) j k) (g p (suc j) k) (g (suc p) (suc j) k) (g p j (suc k)) (g (suc p) j (suc k)) (g p (suc j) (suc k)) (g (suc p) (suc j) (suc k)) (bit p (suc p)) (bit (suc p) (suc p)) (bit j (suc j)) (bit (suc j) (suc j)) (bit k (suc k)) (bit (suc k) (suc k)) (bit_other p (suc p) (own_other p)) (bit_same (suc p)) (bit_other j (suc j) (own_other j)) (bit_same (suc j)) (bit_other k (suc k) (own_other k)) (bit_same (suc k))

  pub above_rate : (p q j q' r k r' : ℕ) → Beside q j q' → Beside r k r' → cell_part w (only_at p q r) p j k ≡ pos 4 *ℤ w p j k
  above_rate p q _ q' r _ r' (from_low j) (from_low k) = rate_above_ll (w p j k) (bit p p) (bit (suc p) p) (bit j j) (bit (suc j) j) (bit k k) (bit (suc k) k) (bit_same p) (bit_other (suc p) p (next_other p)) (bit_same j) (bit_other (suc j) j (next_other j)) (bit_same k) (bit_other (suc k) k (next_other k))
  above_rate p q _ q' r _ r' (from_high j) (from_low k) = rate_above_hl (w p j k) (bit p p) (bit (suc p) p) (bit j (suc j)) (bit (suc j) (suc j)) (bit k k) (bit (suc k) k) (bit_same p) (bit_other (suc p) p (next_other p)) (bit_other j (suc j) (own_other j)) (bit_same (suc j)) (bit_same k) (bit_other (suc k) k (next_other k))
  above_rate p q _ q' r _ r' (from_low j) (from_high k) = rate_above_lh (w p j k) (bit p p) (bit (suc p) p) (bit j j) (bit (suc j) j) (bit k (suc k)) (bit (suc k) (suc k)) (bit_same p) (bit_other (suc p) p (next_other p)) (bit_same j) (bit_other (suc j) j (next_other j)) (bit_other k (suc k) (own_other k)) (bit_same (suc k))
  above_rate p q _ q' r _ r' (from_high j) (from_high k) = rate_above_hh (w p j k) (bit p p) (bit (suc p) p) (bit j (suc j)) (bit (suc j) (suc j)) (bit k (suc k)) (bit (suc k) (suc k)) (bit_same p) (bit_other (suc p) p (next_other p)) (bit_other j (suc j) (own_other j)) (bit_same (suc j)) (bit_other k (suc k) (own_other k)) (bit_same (suc k))

  pub below_rate : (p q j q' r k r' : ℕ) → Beside q j q' → Beside r k r' → cell_part w (only_at (suc p) q r) p j k ≡ pos 4 *ℤ w p j k
  below_rate p q _ q' r _ r' (from_low j) (from_low k) = rate_below_ll (w p j k) (bit p (suc p)) (bit (suc p) (suc p)) (bit j j) (bit (suc j) j) (bit k k) (bit (suc k) k) (bit_other p (suc p) (own_other p)) (bit_same (suc p)) (bit_same j) (bit_other (suc j) j (next_other j)) (bit_same k) (bit_other (suc k) k (next_other k))
  below_rate p q _ q' r _ r' (from_high j) (from_low k) = rate_below_hl (w p j k) (bit p (suc p)) (bit (suc p) (suc p)) (bit j (suc j)) (bit (suc j) (suc j)) (bit k k) (bit (suc k) k) (bit_other p (suc p) (own_other p)) (bit_same (suc p)) (bit_other j (suc j) (own_other j)) (bit_same (suc j)) (bit_same k) (bit_other (suc k) k (next_other k))
  below_rate p q _ q' r _ r' (from_low j) (from_high k) = rate_below_lh (w p j k) (bit p (suc p)) (bit (suc p) (suc p)) (bit j j) (bit (suc j) j) (bit k (suc k)) (bit (suc k) (suc k)) (bit_other p (suc p) (own_other p)) (bit_same (suc p)) (bit_same j) (bit_other (suc j) j (next_other j)) (bit_other k (suc k) (own_other k)) (bit_same (suc k))
  below_rate p q _ q' r _ r' (from_high j) (from_high k) = rate_below_hh (w p j k) (bit p (suc p)) (bit (suc p) (suc p)) (bit j (suc j)) (bit (suc j) (suc j)) (bit k (suc k)) (bit (suc k) (suc k)) (bit_other p (suc p) (own_other p)) (bit_same (suc p)) (bit_other j (suc j) (own_other j)) (bit_same (suc j)) (bit_other k (suc k) (own_other k)) (bit_same (suc k))

  pub at_slope : (p q j q' r k r' : ℕ) → Beside q j q' → Beside r k r' → face_slope s l g (only_at p q r) p j k ≡ s p j k *ℤ (stencil g p q r q' r' -ℤ pos 18 *ℤ l p j k)
  at_slope p q _ q' r _ r' (from_low j) (from_low k) = slope_at_ll (s p j k) (g p j k) (g p (suc j) k) (g p j (suc k)) (g p (suc j) (suc k)) (l p j k) (bit p p) (bit j j) (bit (suc j) j) (bit k k) (bit (suc k) k) (bit_same p) (bit_same j) (bit_other (suc j) j (next_other j)) (bit_same k) (bit_other (suc k) k (next_other k))
  at_slope p q _ q' r _ r' (from_high j) (from_low k) = slope_at_hl (s p j k) (g p j k) (g p (suc j) k) (g p j (suc k)) (g p (suc j) (suc k)) (l p j k) (bit p p) (bit j (suc j)) (bit (suc j) (suc j)) (bit k k) (bit (suc k) k) (bit_same p) (bit_other j (suc j) (own_other j)) (bit_same (suc j)) (bit_same k) (bit_other (suc k) k (next_other k))
  at_slope p q _ q' r _ r' (from_low j) (from_high k) = slope_at_lh (s p j k) (g p j k) (g p (suc j) k) (g p j (suc k)) (g p (suc j) (suc k)) (l p j k) (bit p p) (bit j j) (bit (suc j) j) (bit k (suc k)) (bit (suc k) (suc k)) (bit_same p) (bit_same j) (bit_other (suc j) j (next_other j)) (bit_other k (suc k) (own_other k)) (bit_same (suc k))
  at_slope p q _ q' r _ r' (from_high j) (from_high k) = slope_at_hh (s p j k) (g p j k) (g p (suc j) k) (g p j (suc k)) (g p (suc j) (suc k)) (l p j k) (bit p p) (bit j (suc j)) (bit (suc j) (suc j)) (bit k (suc k)) (bit (suc k) (suc k)) (bit_same p) (bit_other j (suc j) (own_other j)) (bit_same (suc j)) (bit_other k (suc k) (own_other k)) (bit_same (suc k))

  pub at_rate : (p q j q' r k r' : ℕ) → Beside q j q' → Beside r k r' → face_rate s (only_at p q r) p j k ≡ pos 4 *ℤ s p j k
  at_rate p q _ q' r _ r' (from_low j) (from_low k) = rate_at_ll (s p j k) (bit p p) (bit j j) (bit (suc j) j) (bit k k) (bit (suc k) k) (bit_same p) (bit_same j) (bit_other (suc j) j (next_other j)) (bit_same k) (bit_other (suc k) k (next_other k))
  at_rate p q _ q' r _ r' (from_high j) (from_low k) = rate_at_hl (s p j k) (bit p p) (bit j (suc j)) (bit (suc j) (suc j)) (bit k k) (bit (suc k) k) (bit_same p) (bit_other j (suc j) (own_other j)) (bit_same (suc j)) (bit_same k) (bit_other (suc k) k (next_other k))
  at_rate p q _ q' r _ r' (from_low j) (from_high k) = rate_at_lh (s p j k) (bit p p) (bit j j) (bit (suc j) j) (bit k (suc k)) (bit (suc k) (suc k)) (bit_same p) (bit_same j) (bit_other (suc j) j (next_other j)) (bit_other k (suc k) (own_other k)) (bit_same (suc k))
  at_rate p q _ q' r _ r' (from_high j) (from_high k) = rate_at_hh (s p j k) (bit p p) (bit j (suc j)) (bit (suc j) (suc j)) (bit k (suc k)) (bit (suc k) (suc k)) (bit_same p) (bit_other j (suc j) (own_other j)) (bit_same (suc j)) (bit_other k (suc k) (own_other k)) (bit_same (suc k))
