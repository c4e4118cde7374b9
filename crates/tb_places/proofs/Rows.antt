-- Numbers that count along x first, then along y, then along z: with a to the row and b rows to the layer,
-- the place p has the number p.i + a * (p.j + b * p.k).
use Rattle.std.proofs.Common.{◌≡◌, ℕ, zero, suc, ◌+◌, ◌*◌, ◌/◌, ◌%◌, ◌<◌, arith, ap, sym, ◌∙◌}
use Rattle.std.proofs.lemmas.Nat.{mul-add-lt, div-mul-add, mod-mul-add, div-add-mod', div_below, mod_below}
use Rattle.tb_places.specs.declared.Place.{Place}
use Rattle.tb_places.specs.Inverse.{place_by_rows}
use Rattle.tb_places.specs.Places.{place_at}

-- a place is known by its three indexes
pub same_place : (p q : Place) → p.i ≡ q.i → p.j ≡ q.j → p.k ≡ q.k → p ≡ q
same_place p q same_i same_j same_k =
    ap (λ (i : ℕ). place_at i p.j p.k) same_i ∙ ap (λ (j : ℕ). place_at q.i j p.k) same_j ∙ ap (λ (k : ℕ). place_at q.i q.j k) same_k

pub same_indexes : (p q : Place) → p ≡ q → (p.i ≡ q.i) × (p.j ≡ q.j) × (p.k ≡ q.k)
same_indexes p q same = (ap (λ (t : Place). t.i) same, ap (λ (t : Place). t.j) same, ap (λ (t : Place). t.k) same)

-- the row of a place, counted through all layers
pub row_below : (b c j k : ℕ) → j < b → k < c → j + b * k < b * c
row_below b c j k on_y on_z = let below : k * b + j < b * c = mul-add-lt k b j c on_z on_y in omega arith

pub number_below : (a b c : ℕ) (p : Place) → p.i < a → p.j < b → p.k < c → p.i + a * (p.j + b * p.k) < a * (b * c)
number_below a b c p on_x on_y on_z =
    let row = p.j + b * p.k in
    let below : row * a + p.i < a * (b * c) = mul-add-lt row a p.i (b * c) (row_below b c p.j p.k on_y on_z) on_x in
    omega arith

-- the place of the number of a place is the place
pub place_of_number : (a b : ℕ) (p : Place) → p.i < a → p.j < b → place_by_rows a b (p.i + a * (p.j + b * p.k)) ≡ p
place_of_number a b p on_x on_y =
    let number : p.i + a * (p.j + b * p.k) ≡ (p.j + b * p.k) * a + p.i = omega arith in
    let row_number : p.j + b * p.k ≡ p.k * b + p.j = omega arith in
    let row : (p.i + a * (p.j + b * p.k)) / a ≡ p.k * b + p.j =
    ap (λ (m : ℕ). m / a) number ∙ div-mul-add (p.j + b * p.k) a p.i on_x ∙ row_number in
    same_place (place_by_rows a b (p.i + a * (p.j + b * p.k))) p
    (ap (λ (m : ℕ). m % a) number ∙ mod-mul-add (p.j + b * p.k) a p.i on_x)
    (ap (λ (m : ℕ). m % b) row ∙ mod-mul-add p.k b p.j on_y)
    (ap (λ (m : ℕ). m / b) row ∙ div-mul-add p.k b p.j on_y)

-- two places with one number are one place
pub number_apart : (a b : ℕ) (p q : Place) → p.i < a → p.j < b → q.i < a → q.j < b →
    p.i + a * (p.j + b * p.k) ≡ q.i + a * (q.j + b * q.k) → p ≡ q
number_apart a b p q p_on_x p_on_y q_on_x q_on_y same =
    sym (place_of_number a b p p_on_x p_on_y) ∙ ap (λ (m : ℕ). place_by_rows a b m) same ∙ place_of_number a b q q_on_x q_on_y

-- the number of the place of a number is the number
pub number_of_place : (a b m : ℕ) → m % a + a * (m / a % b + b * (m / a / b)) ≡ m
number_of_place a b m =
    let in_row : m / a * a + m % a ≡ m = div-add-mod' m a in
    let in_layer : m / a / b * b + m / a % b ≡ m / a = div-add-mod' (m / a) b in
    let row : m / a % b + b * (m / a / b) ≡ m / a = omega arith in
    rw row (omega arith)

pub positive_of_below : (a b m : ℕ) → m < a * b → 0 < a
positive_of_below zero b m below = absurd (omega arith)
positive_of_below (suc a) b m below = omega arith

-- number m of b rows of a each stands in a row
pub row_within : (a b m : ℕ) → m < a * b → (m % a < a) × (m / a < b)
row_within a b m below =
    let some : 0 < a = positive_of_below a b m below in
    (mod_below m a some, div_below m a b some (omega arith))

-- the place of a number below the count is a place
pub place_within : (a b c m : ℕ) → m < a * (b * c) → (m % a < a) × (m / a % b < b) × (m / a / b < c)
place_within a b c m below =
    let row = row_within a (b * c) m below in
    let layer = row_within b c (m / a) row.1 in
    (row.0, layer.0, layer.1)
