-- A cut of an axis: one of its intervals is cut in two.
--
-- Along the axis the interval at p becomes the intervals p and p + 1, and a new plane of nodes and faces, with the
-- index p + 1, stands between them. Intervals behind p, and planes above p, move by one place.
use Rattle.std.specs.Prelude.{ℕ, zero, suc, nat_lt, if◌then◌else◌}
use Rattle.tb_places.specs.declared.AxisName.{AxisName}
use Rattle.tb_places.specs.declared.AxisName.TheVariants.{X, Y, Z}
use Rattle.tb_places.specs.Places.{Counts}

-- Lines of values --

-- the values of f, with x and y in the place of the one at p, and those behind it one place on
abbrev pub with_two : {A : Type 0} → ℕ → A → A → (ℕ → A) → ℕ → A
with_two zero x y f zero = x
with_two zero x y f (suc zero) = y
with_two zero x y f (suc (suc i)) = f (suc i)
with_two (suc p) x y f zero = f zero
with_two (suc p) x y f (suc i) = with_two p x y (λ n. f (suc n)) i

-- the value at p stands at p and at p + 1
abbrev pub in_both : {A : Type 0} → ℕ → (ℕ → A) → ℕ → A
in_both p f = with_two p (f p) (f p) f

-- Axes --

-- the first on its own axis, the second on the two others
abbrev pub on_axis : {A : Type 0} → AxisName → AxisName → A → A → A
on_axis X X x y = x
on_axis Y Y x y = x
on_axis Z Z x y = x
on_axis _ _ x y = y

-- a change of lines of values, made on each line along an axis
abbrev pub on_lines : {A : Type 0} → AxisName → ((ℕ → A) → ℕ → A) → (ℕ → ℕ → ℕ → A) → ℕ → ℕ → ℕ → A
on_lines X g f i j k = g (λ n. f n j k) i
on_lines Y g f i j k = g (λ n. f i n k) j
on_lines Z g f i j k = g (λ n. f i j n) k

-- Counts and indexes --

-- there is one interval more on the axis
abbrev pub cut_counts : AxisName → Counts → Counts
cut_counts a n b = on_axis a b (suc (n b)) (n b)

-- where the interval, or the plane, at index i is after the cut of interval p: of the interval p, its first part
abbrev pub moved : ℕ → ℕ → ℕ
moved p i = if nat_lt p i then suc i else i
