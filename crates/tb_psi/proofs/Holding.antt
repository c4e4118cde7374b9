-- The least and the most that terms take away hold what they take away.
use Rattle.std.proofs.Common.{◌≡◌, refl, sym, ap, subst, ◌∙◌, ℕ, ◌*◌, ◌^◌, ℤ, pos, ◌-ℤ◌, List, length, [], ◌∷◌, arith}
use Rattle.tb_math.specs.Rational.{ℚ, int, one_over, ◌-ℚ◌, ◌*ℚ◌, ◌≤ℚ◌, neg_ℚ}
use Rattle.tb_math.proofs.RationalLaws.{int-difference, int-mul, one_over_cancel}
use Rattle.tb_math.proofs.RationalOrder.{≤ℚ-add}
use Rattle.tb_math.proofs.RationalProducts.{≤ℚ-neg}
use Rattle.tb_math.proofs.RationalSums.{total-int, total-mono}
use Rattle.tb_math.proofs.ReadRationals.{by_given, by_reading, reading, none, given}
use Rattle.tb_detail.specs.declared.LineTerm.{LineTerm}
use Rattle.tb_planar.specs.Bounds.{Encloses, times}
use Rattle.tb_planar.specs.Printed.{HoldsTransmittance}
use Rattle.tb_planar.proofs.Enclosing.{divided-encloses, times-encloses}
use Rattle.tb_psi.specs.Heat.{HoldLines, HoldPlanar, HoldsPsi, PlanarTerm, heat, least_heat, least_line, least_lines, least_planar, line_heat, line_term, most_heat, most_line, most_lines, most_planar, planar_heat, planar_term}

-- ---- one term

shared : (n : ℕ) (q : ℚ) → int (pos n) *ℚ (int (pos (10 ^ 15)) *ℚ q) *ℚ one_over (10 ^ 4) ≡ heat q n
shared n q = regrouped (int (pos n)) (int (pos (10 ^ 15))) q (one_over (10 ^ 4))
  where
    regrouped : (a b c d : ℚ) → a *ℚ (b *ℚ c) *ℚ d ≡ b *ℚ c *ℚ (a *ℚ d)
    regrouped a b c d = by_reading {atoms = a ∷ b ∷ c ∷ d ∷ []} (search reading depth 40 fits 20000) (search reading depth 40 fits 20000) refl

pub term_held : (t : PlanarTerm) (q : ℚ) → HoldsTransmittance t.0 q → Encloses (record { low = least_heat t; high = most_heat t }) (heat q t.1)
term_held t q h = subst (Encloses (record { low = least_heat t; high = most_heat t })) (shared t.1 q)
    (divided-encloses (times t.1 (record { low = t.0.lo; high = t.0.hi })) (10 ^ 4) (int (pos t.1) *ℚ (int (pos (10 ^ 15)) *ℚ q)) (omega arith)
    (times-encloses t.1 (record { low = t.0.lo; high = t.0.hi }) (int (pos (10 ^ 15)) *ℚ q) h))

pub line_held : (t : LineTerm) (p : ℚ) → HoldsPsi t p → Encloses (record { low = least_line t; high = most_line t }) (heat p t.length)
line_held t p h = subst (Encloses (record { low = least_line t; high = most_line t })) (unit t.length p)
    (times-encloses (t.length * 10 ^ 5) (record { low = t.psi_lo; high = t.psi_hi }) (int (pos (10 ^ 6)) *ℚ p)
    (record { above_low = h.above_low; below_high = h.below_high }))
  where
    scaled : (n p o : ℚ) → int (pos (10 ^ 4)) *ℚ o ≡ int (pos 1) → n *ℚ int (pos (10 ^ 5)) *ℚ (int (pos (10 ^ 6)) *ℚ p) ≡ int (pos (10 ^ 15)) *ℚ p *ℚ (n *ℚ o)
    scaled n p o e = by_given {atoms = n ∷ p ∷ o ∷ []} (search reading depth 40 fits 20000) (search reading depth 40 fits 20000)
        (given (int (pos (10 ^ 11)) *ℚ n *ℚ p) (int (pos 1)) (int (pos (10 ^ 4)) *ℚ o) (search reading depth 40 fits 20000) (search reading) (search reading) (sym e) none) refl

    unit : (n : ℕ) (p : ℚ) → int (pos (n * 10 ^ 5)) *ℚ (int (pos (10 ^ 6)) *ℚ p) ≡ heat p n
    unit n p = ap (λ (t : ℚ). t *ℚ (int (pos (10 ^ 6)) *ℚ p)) (int-mul (pos n) (pos (10 ^ 5))) ∙ scaled (int (pos n)) p (one_over (10 ^ 4)) (one_over_cancel (10 ^ 4) (omega arith))

-- ---- all terms

pub planar_least : (terms : List PlanarTerm) (u : ℕ → ℚ) → HoldPlanar terms u → int (least_planar terms) ≤ℚ planar_heat terms u
planar_least terms u h = subst (λ (t : ℚ). t ≤ℚ planar_heat terms u) (sym (total-int (length terms) (λ i. least_heat (planar_term terms i))))
    (total-mono (length terms) (λ i. int (least_heat (planar_term terms i))) (λ i. heat (u i) (planar_term terms i).1)
    (λ i l. (term_held (planar_term terms i) (u i) (h i l)).above_low))

pub planar_most : (terms : List PlanarTerm) (u : ℕ → ℚ) → HoldPlanar terms u → planar_heat terms u ≤ℚ int (most_planar terms)
planar_most terms u h = subst (λ (t : ℚ). planar_heat terms u ≤ℚ t) (sym (total-int (length terms) (λ i. most_heat (planar_term terms i))))
    (total-mono (length terms) (λ i. heat (u i) (planar_term terms i).1) (λ i. int (most_heat (planar_term terms i)))
    (λ i l. (term_held (planar_term terms i) (u i) (h i l)).below_high))

pub lines_least : (terms : List LineTerm) (p : ℕ → ℚ) → HoldLines terms p → int (least_lines terms) ≤ℚ line_heat terms p
lines_least terms p h = subst (λ (t : ℚ). t ≤ℚ line_heat terms p) (sym (total-int (length terms) (λ i. least_line (line_term terms i))))
    (total-mono (length terms) (λ i. int (least_line (line_term terms i))) (λ i. heat (p i) (line_term terms i).length)
    (λ i l. (line_held (line_term terms i) (p i) (h i l)).above_low))

pub lines_most : (terms : List LineTerm) (p : ℕ → ℚ) → HoldLines terms p → line_heat terms p ≤ℚ int (most_lines terms)
lines_most terms p h = subst (λ (t : ℚ). line_heat terms p ≤ℚ t) (sym (total-int (length terms) (λ i. most_line (line_term terms i))))
    (total-mono (length terms) (λ i. heat (p i) (line_term terms i).length) (λ i. int (most_line (line_term terms i)))
    (λ i l. (line_held (line_term terms i) (p i) (h i l)).below_high))

-- ---- what is left

-- from at least z at most w is taken away, and from at most z at least w
pub left_least : (z w : ℤ) (x h : ℚ) → int z ≤ℚ x → h ≤ℚ int w → int (z -ℤ w) ≤ℚ x -ℚ h
left_least z w x h k l = subst (λ (t : ℚ). t ≤ℚ x -ℚ h) (sym (int-difference z w)) (≤ℚ-add (int z) x (neg_ℚ (int w)) (neg_ℚ h) k (≤ℚ-neg h (int w) l))

pub left_most : (z w : ℤ) (x h : ℚ) → x ≤ℚ int z → int w ≤ℚ h → x -ℚ h ≤ℚ int (z -ℤ w)
left_most z w x h k l = subst (λ (t : ℚ). x -ℚ h ≤ℚ t) (sym (int-difference z w)) (≤ℚ-add x (int z) (neg_ℚ h) (neg_ℚ (int w)) k (≤ℚ-neg (int w) h l))
