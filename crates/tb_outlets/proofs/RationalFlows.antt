-- Flows of rational values: they are determined by their values off the outlets too.
use Rattle.std.proofs.Common.{◌≡◌, ◌≢◌, ℕ, sym, ◌∙◌, ⊎_elim, refl}
use mathlib.Core.List.{[], ◌∷◌}
use Rattle.std.specs.Prelude.{pos}
use Rattle.tb_math.specs.Rational.{ℚ, int, ◌+ℚ◌, ◌-ℚ◌, ◌≤ℚ◌, ◌<ℚ◌}
use Rattle.tb_math.proofs.ReadRationals.{by_given, reading, none, given}
use Rattle.tb_math.proofs.RationalOrder.{≤ℚ-antisym}
use Rattle.tb_math.proofs.StrictOrder.{≤ℚ-linear, <ℚ-is}
use Rattle.tb_places.specs.declared.AxisName.TheVariants.{X, Y, Z}
use Rattle.tb_outlets.specs.declared.side.Side.{Side}
use Rattle.tb_outlets.specs.declared.side.Side.TheVariants.{Low, High}
use Rattle.tb_outlets.specs.Flows.{Sides}
use Rattle.tb_outlets.proofs.Uniqueness.{AreValues}

cannot_differ : (x y : ℚ) → (x ≢ y → x ≡ y) → x ≡ y
cannot_differ x y h = ⊎_elim
    (λ (up : x ≤ℚ y). ⊎_elim
    (λ (down : y ≤ℚ x). ≤ℚ-antisym x y up down)
    (λ (less : x <ℚ y). h ((<ℚ-is x y).0 less).1)
    (≤ℚ-linear y x))
    (λ (less : y <ℚ x). h (λ e. ((<ℚ-is y x).0 less).1 (sym e)))
    (≤ℚ-linear x y)

-- what leaves through three pairs of faces, each the high one first
abbrev pub total : (u l v m w n : ℚ) → ℚ
total u l v m w n = (u -ℚ l) +ℚ (v -ℚ m) +ℚ (w -ℚ n)

-- and through the six faces of a cell
abbrev pub loss : Sides → (ℕ → ℚ) → ℕ → ℚ
loss face q c = total (q (face c (High X))) (q (face c (Low X))) (q (face c (High Y))) (q (face c (Low Y))) (q (face c (High Z))) (q (face c (Low Z)))

high_x : (u u' l v m w n : ℚ) → total u l v m w n ≡ total u' l v m w n → u ≡ u'
high_x u u' l v m w n e = by_given {atoms = u ∷ u' ∷ l ∷ v ∷ m ∷ w ∷ n ∷ []} (search reading) (search reading)
    (given (int (pos 1)) (total u l v m w n) (total u' l v m w n) (search reading) (search reading depth 20) (search reading depth 20) e none) refl

low_x : (u l l' v m w n : ℚ) → total u l v m w n ≡ total u l' v m w n → l' ≡ l
low_x u l l' v m w n e = by_given {atoms = u ∷ l ∷ l' ∷ v ∷ m ∷ w ∷ n ∷ []} (search reading) (search reading)
    (given (int (pos 1)) (total u l v m w n) (total u l' v m w n) (search reading) (search reading depth 20) (search reading depth 20) e none) refl

-- the axes in another order
turned : (u l v m w n : ℚ) → total u l v m w n ≡ total v m w n u l
turned u l v m w n = by_given {atoms = u ∷ l ∷ v ∷ m ∷ w ∷ n ∷ []} (search reading depth 20) (search reading depth 20) none refl

turn_both : (u l v m w n u' l' v' m' w' n' : ℚ) → total u l v m w n ≡ total u' l' v' m' w' n' → total v m w n u l ≡ total v' m' w' n' u' l'
turn_both u l v m w n u' l' v' m' w' n' e = sym (turned u l v m w n) ∙ e ∙ turned u' l' v' m' w' n'

-- the sixth face of a cell follows from the five others
high_first : (u l v m w n u' l' v' m' w' n' : ℚ) → l ≡ l' → v ≡ v' → m ≡ m' → w ≡ w' → n ≡ n' → total u l v m w n ≡ total u' l' v' m' w' n' → u ≡ u'
high_first u l v m w n u' l' v' m' w' n' el ev em ew en e =
    high_x u u' l v m w n (e ∙ sym (λ t. total u' (el t) (ev t) (em t) (ew t) (en t)))

low_first : (u l v m w n u' l' v' m' w' n' : ℚ) → u ≡ u' → v ≡ v' → m ≡ m' → w ≡ w' → n ≡ n' → total u l v m w n ≡ total u' l' v' m' w' n' → l ≡ l'
low_first u l v m w n u' l' v' m' w' n' eu ev em ew en e =
    sym (low_x u l l' v m w n (e ∙ sym (λ t. total (eu t) l' (ev t) (em t) (ew t) (en t))))

last_side : (face : Sides) (q r : ℕ → ℚ) (c : ℕ) (o : Side) → loss face q c ≡ loss face r c →
    ((s : Side) → s ≢ o → q (face c s) ≡ r (face c s)) → q (face c o) ≡ r (face c o)
last_side face q r c (High X) same others = high_first _ _ _ _ _ _ _ _ _ _ _ _
    (others (Low X) (λ e. cc)) (others (High Y) (λ e. cc)) (others (Low Y) (λ e. cc)) (others (High Z) (λ e. cc)) (others (Low Z) (λ e. cc)) same
last_side face q r c (Low X) same others = low_first _ _ _ _ _ _ _ _ _ _ _ _
    (others (High X) (λ e. cc)) (others (High Y) (λ e. cc)) (others (Low Y) (λ e. cc)) (others (High Z) (λ e. cc)) (others (Low Z) (λ e. cc)) same
last_side face q r c (High Y) same others = high_first _ _ _ _ _ _ _ _ _ _ _ _
    (others (Low Y) (λ e. cc)) (others (High Z) (λ e. cc)) (others (Low Z) (λ e. cc)) (others (High X) (λ e. cc)) (others (Low X) (λ e. cc))
    (turn_both _ _ _ _ _ _ _ _ _ _ _ _ same)
last_side face q r c (Low Y) same others = low_first _ _ _ _ _ _ _ _ _ _ _ _
    (others (High Y) (λ e. cc)) (others (High Z) (λ e. cc)) (others (Low Z) (λ e. cc)) (others (High X) (λ e. cc)) (others (Low X) (λ e. cc))
    (turn_both _ _ _ _ _ _ _ _ _ _ _ _ same)
last_side face q r c (High Z) same others = high_first _ _ _ _ _ _ _ _ _ _ _ _
    (others (Low Z) (λ e. cc)) (others (High X) (λ e. cc)) (others (Low X) (λ e. cc)) (others (High Y) (λ e. cc)) (others (Low Y) (λ e. cc))
    (turn_both _ _ _ _ _ _ _ _ _ _ _ _ (turn_both _ _ _ _ _ _ _ _ _ _ _ _ same))
last_side face q r c (Low Z) same others = low_first _ _ _ _ _ _ _ _ _ _ _ _
    (others (High Z) (λ e. cc)) (others (High X) (λ e. cc)) (others (Low X) (λ e. cc)) (others (High Y) (λ e. cc)) (others (Low Y) (λ e. cc))
    (turn_both _ _ _ _ _ _ _ _ _ _ _ _ (turn_both _ _ _ _ _ _ _ _ _ _ _ _ same))

pub rational_values : (face : Sides) → AreValues ℚ face (loss face)
rational_values face = record { cannot_differ = cannot_differ; last_side = last_side face }
