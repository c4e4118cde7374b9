-- The sum over a grid, as seen from one axis, where the grid is cut along that axis or across it.
use mathlib.Core.Path.{◌≡◌, refl, ap, ap₂, ◌∙◌, sym, fun_ext}
use mathlib.Core.Logic.{◌⊎◌, inl, inr}
use Prim.Native.Nat.{ℕ, zero, suc, ◌<◌, ◌≤◌}
use native.Mathlib.Omega.{arith}
use lib.IntN.{pos}
use Rattle.std.proofs.Math.Nat.{eq-or-lt_of_le}
use Rattle.std.specs.Prelude.{Option, Some, None, Bool}
use Rattle.tb_math.specs.Rational.{ℚ, int, ◌+ℚ◌}
use Rattle.tb_math.specs.Sums.{total}
use mathlib.Core.List.{[]}
use Rattle.tb_math.proofs.ReadRationals.{by_reading, reading}
use Rattle.tb_math.proofs.RationalSums.{total-cong}
use Rattle.tb_detail.specs.declared.Content.{Content}
use Rattle.tb_detail.specs.declared.Content.TheVariants.{Solid, Air}
use Rattle.tb_model.specs.declared.FaceKind.{FaceKind}
use Rattle.tb_model.specs.declared.FaceKind.TheVariants.{Inner, Surface, Shut, Idle}
use Rattle.tb_model.specs.Mesh.{kind_between, below, above}
use Rattle.tb_model.specs.Energy.{of_solid, at_surface}
use Rattle.tb_places.specs.Cuts.{in_both}
use Rattle.tb_places.proofs.CutLines.{both-up_to, both-from}
use Rattle.tb_cuts.proofs.CutLines.{IsCut, cut-total, HasNothingAt, nothing-total, cut-plus, cut-sum}

abbrev pub Filled : Type 0
Filled = ℕ → Option Content

-- the kind of face i of a line of n cells
abbrev pub face_kind : ℕ → Filled → ℕ → FaceKind
face_kind n c i = kind_between (below c i) (above n c i)

abbrev pub cell_value : (ℕ → ℚ) → Option Content → ℚ
cell_value f c = of_solid (int (pos 0)) f c

abbrev pub face_value : (ℕ → ℕ → Bool → ℚ) → FaceKind → ℚ
face_value f c = at_surface (int (pos 0)) f c

-- the sum of a line of n cells, and of n2 by n3 lines
abbrev pub line : (n : ℕ) → Filled → (cell : ℕ → ℕ → ℚ) (face : ℕ → ℕ → ℕ → Bool → ℚ) → ℚ
line n c cell face = total n (λ i. cell_value (cell i) (c i)) +ℚ total (suc n) (λ i. face_value (face i) (face_kind n c i))

abbrev pub grid : (n n2 n3 : ℕ) → (ℕ → ℕ → ℕ → Option Content) → (cell : ℕ → ℕ → ℕ → ℕ → ℚ) (face : ℕ → ℕ → ℕ → ℕ → ℕ → Bool → ℚ) → ℚ
grid n n2 n3 c cell face = total n3 (λ k. total n2 (λ j. line n (λ i. c i j k) (λ i. cell i j k) (λ i. face i j k)))

-- Cells and faces with cut terms --

pub cell_cong : (c : Option Content) (f g : ℕ → ℚ) → ((m : ℕ) → f m ≡ g m) → cell_value f c ≡ cell_value g c
cell_cong c f g h = ap (λ (t : ℕ → ℚ). cell_value t c) (fun_ext h)

pub face_cong : (c : FaceKind) (f g : ℕ → ℕ → Bool → ℚ) → ((e rs : ℕ) (low : Bool) → f e rs low ≡ g e rs low) → face_value f c ≡ face_value g c
face_cong c f g h = ap (λ (t : ℕ → ℕ → Bool → ℚ). face_value t c) (fun_ext (λ e. fun_ext (λ rs. fun_ext (λ low. h e rs low))))

nothing_added : int (pos 0) +ℚ int (pos 0) ≡ int (pos 0)
nothing_added = by_reading {atoms = []} (search reading) (search reading) refl

cell_adds : (c : Option Content) (f g h : ℕ → ℚ) → ((m : ℕ) → f m +ℚ g m ≡ h m) → cell_value f c +ℚ cell_value g c ≡ cell_value h c
cell_adds (Some (Solid m)) f g h e = e m
cell_adds (Some (Air a rs)) f g h e = nothing_added
cell_adds None f g h e = nothing_added

face_adds : (c : FaceKind) (f g h : ℕ → ℕ → Bool → ℚ) → ((e rs : ℕ) (low : Bool) → f e rs low +ℚ g e rs low ≡ h e rs low) → face_value f c +ℚ face_value g c ≡ face_value h c
face_adds (Surface e rs low) f g h d = d e rs low
face_adds Inner f g h d = nothing_added
face_adds Shut f g h d = nothing_added
face_adds Idle f g h d = nothing_added

-- cells that are cut, and stay filled as they were
pub cell_cut : (p : ℕ) (c : Filled) (f g : ℕ → ℕ → ℚ) → ((m : ℕ) → IsCut p (λ j. f j m) (λ j. g j m)) →
    IsCut p (λ j. cell_value (f j) (c j)) (λ j. cell_value (g j) (in_both p c j))
cell_cut p c f g h = record {
  before = λ i l. ap (cell_value (g i)) (both-up_to p c i (omega arith)) ∙ cell_cong (c i) (g i) (f i) (λ m. (h m).before i l);
  here = ap₂ (λ (x y : ℚ). x +ℚ y) (ap (cell_value (g p)) (both-up_to p c p (omega arith))) (ap (cell_value (g (suc p))) (both-from p c p (omega arith)))
      ∙ cell_adds (c p) (g p) (g (suc p)) (f p) (λ m. (h m).here);
  after = λ i l. ap (cell_value (g (suc i))) (both-from p c i (omega arith)) ∙ cell_cong (c i) (g (suc i)) (f i) (λ m. (h m).after i l);
}

-- faces across which the cut runs: the lines of cells on both sides of it are filled alike
pub face_cut : (p n i : ℕ) (c : ℕ → ℕ → Option Content) (f g : ℕ → ℕ → ℕ → Bool → ℚ) → ((e rs : ℕ) (low : Bool) → IsCut p (λ j. f j e rs low) (λ j. g j e rs low)) →
    IsCut p (λ j. face_value (f j) (face_kind n (λ i. c i j) i)) (λ j. face_value (g j) (face_kind n (λ i. in_both p (c i) j) i))
face_cut p n i c f g h = record {
  before = λ j l. ap (at_kind (g j)) (up_to j (omega arith)) ∙ face_cong (face_kind n (λ i. c i j) i) (g j) (f j) (λ e rs low. (h e rs low).before j l);
  here = ap₂ (λ (x y : ℚ). x +ℚ y) (ap (at_kind (g p)) (up_to p (omega arith))) (ap (at_kind (g (suc p))) (from p (omega arith)))
      ∙ face_adds (face_kind n (λ i. c i p) i) (g p) (g (suc p)) (f p) (λ e rs low. (h e rs low).here);
  after = λ j l. ap (at_kind (g (suc j))) (from j (omega arith)) ∙ face_cong (face_kind n (λ i. c i j) i) (g (suc j)) (f j) (λ e rs low. (h e rs low).after j l);
}
  where
    at_kind : (ℕ → ℕ → Bool → ℚ) → Filled → ℚ
    at_kind f c = face_value f (face_kind n c i)

    across : (ℕ → ℕ → Option Content) → ℕ → Filled
    across c j i = c i j

    up_to : (j : ℕ) → j ≤ p → across (λ i. in_both p (c i)) j ≡ across c j
    up_to j l = fun_ext (λ i. both-up_to p (c i) j l)

    from : (j : ℕ) → p ≤ j → across (λ i. in_both p (c i)) (suc j) ≡ across c j
    from j l = fun_ext (λ i. both-from p (c i) j l)

-- The line along which the cut runs --

above_within : (n i : ℕ) (c : Filled) → i < n → above n c i ≡ c i
above_within n i c h = grind arith

above_end : (n : ℕ) (c : Filled) → above n c n ≡ None
above_end n c = grind arith

-- a face within what fills both its sides is no surface
inside_none : (c : Option Content) (f : ℕ → ℕ → Bool → ℚ) → face_value f (kind_between c c) ≡ int (pos 0)
inside_none (Some (Solid m)) f = refl
inside_none (Some (Air e rs)) f = refl
inside_none None f = refl

below_up_to : (p : ℕ) (c : Filled) (i : ℕ) → i ≤ p → below (in_both p c) i ≡ below c i
below_up_to p c zero h = refl
below_up_to p c (suc i) h = both-up_to p c i (omega arith)

below_from : (p : ℕ) (c : Filled) (i : ℕ) → p < i → below (in_both p c) (suc i) ≡ below c i
below_from p c zero h = absurd (omega arith)
below_from p c (suc i) h = both-from p c i (omega arith)

above_up_to : (n p : ℕ) (c : Filled) (i : ℕ) → p < n → i ≤ p → above (suc n) (in_both p c) i ≡ above n c i
above_up_to n p c i l h = above_within (suc n) i (in_both p c) (omega arith) ∙ both-up_to p c i h ∙ sym (above_within n i c (omega arith))

above_from : (n p : ℕ) (c : Filled) (i : ℕ) → p < i → i ≤ n → above (suc n) (in_both p c) (suc i) ≡ above n c i
above_from n p c i h k = by_place (eq-or-lt_of_le k)
  where
    by_place : (i ≡ n) ⊎ (i < n) → above (suc n) (in_both p c) (suc i) ≡ above n c i
    by_place (inl e) = ap (λ (t : ℕ). above (suc n) (in_both p c) (suc t)) e ∙ above_end (suc n) (in_both p c) ∙ sym (ap (above n c) e ∙ above_end n c)
    by_place (inr l) = above_within (suc n) (suc i) (in_both p c) (omega arith) ∙ both-from p c i (omega arith) ∙ sym (above_within n i c l)

-- the faces across the cut axis
pub record StayFaces (p : ℕ) (f g : ℕ → ℕ → ℕ → Bool → ℚ) : Type 0 where
  pub before : (i e rs : ℕ) (low : Bool) → i ≤ p → g i e rs low ≡ f i e rs low
  pub after : (i e rs : ℕ) (low : Bool) → p < i → g (suc i) e rs low ≡ f i e rs low

-- the kinds of the faces across the cut axis: those up to p, the new one, and those behind
pub kind_up_to : (n p : ℕ) (c : Filled) (i : ℕ) → p < n → i ≤ p → face_kind (suc n) (in_both p c) i ≡ face_kind n c i
kind_up_to n p c i l h = λ t. kind_between (below_up_to p c i h t) (above_up_to n p c i l h t)

pub kind_inside : (n p : ℕ) (c : Filled) → p < n → face_kind (suc n) (in_both p c) (suc p) ≡ kind_between (c p) (c p)
kind_inside n p c l = ap₂ kind_between (both-up_to p c p (omega arith)) (above_within (suc n) (suc p) (in_both p c) (omega arith) ∙ both-from p c p (omega arith))

pub kind_from : (n p : ℕ) (c : Filled) (i : ℕ) → p < i → i ≤ n → face_kind (suc n) (in_both p c) (suc i) ≡ face_kind n c i
kind_from n p c i h k = λ t. kind_between (below_from p c i h t) (above_from n p c i h k t)

faces_along : (n p : ℕ) (c : Filled) (f g : ℕ → ℕ → ℕ → Bool → ℚ) → p < n → StayFaces p f g →
    HasNothingAt (suc n) (suc p) (λ i. face_value (f i) (face_kind n c i)) (λ i. face_value (g i) (face_kind (suc n) (in_both p c) i))
faces_along n p c f g l h = record {
  before = λ i k. ap (face_value (g i)) (kind_up_to n p c i l (omega arith)) ∙ face_cong (face_kind n c i) (g i) (f i) (λ e rs low. h.before i e rs low (omega arith));
  here = ap (face_value (g (suc p))) (kind_inside n p c l) ∙ inside_none (c p) (g (suc p));
  after = λ i k b. ap (face_value (g (suc i))) (kind_from n p c i (omega arith) (omega arith)) ∙ face_cong (face_kind n c i) (g (suc i)) (f i) (λ e rs low. h.after i e rs low (omega arith));
}

pub line_along : (n p : ℕ) (c : Filled) (f f' : ℕ → ℕ → ℚ) (g g' : ℕ → ℕ → ℕ → Bool → ℚ) → p < n →
    ((m : ℕ) → IsCut p (λ i. f i m) (λ i. f' i m)) → StayFaces p g g' → line (suc n) (in_both p c) f' g' ≡ line n c f g
line_along n p c f f' g g' l cells faces = ap₂ (λ (x y : ℚ). x +ℚ y)
    (cut-total n p (λ i. cell_value (f i) (c i)) (λ i. cell_value (f' i) (in_both p c i)) l (cell_cut p c f f' cells))
    (nothing-total (suc n) (suc p) (λ i. face_value (g i) (face_kind n c i)) (λ i. face_value (g' i) (face_kind (suc n) (in_both p c) i)) (omega arith) (faces_along n p c g g' l faces))

-- The grid, cut along its first axis, --

pub grid_first : (n n2 n3 p : ℕ) (c : ℕ → ℕ → ℕ → Option Content) (f f' : ℕ → ℕ → ℕ → ℕ → ℚ) (g g' : ℕ → ℕ → ℕ → ℕ → ℕ → Bool → ℚ) → p < n →
    ((j k m : ℕ) → IsCut p (λ i. f i j k m) (λ i. f' i j k m)) → ((j k : ℕ) → StayFaces p (λ i. g i j k) (λ i. g' i j k)) →
    grid (suc n) n2 n3 (λ i j k. in_both p (λ i. c i j k) i) f' g' ≡ grid n n2 n3 c f g
grid_first n n2 n3 p c f f' g g' l cells faces =
    total-cong n3 (λ k. total n2 (λ j. line (suc n) (in_both p (λ i. c i j k)) (λ i. f' i j k) (λ i. g' i j k))) (λ k. total n2 (λ j. line n (λ i. c i j k) (λ i. f i j k) (λ i. g i j k)))
    (λ k hk. total-cong n2 (λ j. line (suc n) (in_both p (λ i. c i j k)) (λ i. f' i j k) (λ i. g' i j k)) (λ j. line n (λ i. c i j k) (λ i. f i j k) (λ i. g i j k))
    (λ j hj. line_along n p (λ i. c i j k) (λ i. f i j k) (λ i. f' i j k) (λ i. g i j k) (λ i. g' i j k) l (cells j k) (faces j k)))

-- or across it: a line of cut cells and cut faces is cut
pub line_cut : (p n : ℕ) (c : ℕ → ℕ → Option Content) (f f' : ℕ → ℕ → ℕ → ℚ) (g g' : ℕ → ℕ → ℕ → ℕ → Bool → ℚ) →
    ((i m : ℕ) → IsCut p (λ j. f i j m) (λ j. f' i j m)) → ((i e rs : ℕ) (low : Bool) → IsCut p (λ j. g i j e rs low) (λ j. g' i j e rs low)) →
    IsCut p (λ j. line n (λ i. c i j) (λ i. f i j) (λ i. g i j)) (λ j. line n (λ i. in_both p (c i) j) (λ i. f' i j) (λ i. g' i j))
line_cut p n c f f' g g' cells faces =
    cut-plus p (λ j. total n (λ i. cell_value (f i j) (c i j))) (λ j. total n (λ i. cell_value (f' i j) (in_both p (c i) j)))
    (λ j. total (suc n) (λ i. face_value (g i j) (face_kind n (λ i. c i j) i))) (λ j. total (suc n) (λ i. face_value (g' i j) (face_kind n (λ i. in_both p (c i) j) i)))
    (cut-sum p n (λ i j. cell_value (f i j) (c i j)) (λ i j. cell_value (f' i j) (in_both p (c i) j)) (λ i. cell_cut p (c i) (f i) (f' i) (cells i)))
    (cut-sum p (suc n) (λ i j. face_value (g i j) (face_kind n (λ i. c i j) i)) (λ i j. face_value (g' i j) (face_kind n (λ i. in_both p (c i) j) i)) (λ i. face_cut p n i c (g i) (g' i) (faces i)))

pub grid_second : (n n2 n3 p : ℕ) (c : ℕ → ℕ → ℕ → Option Content) (f f' : ℕ → ℕ → ℕ → ℕ → ℚ) (g g' : ℕ → ℕ → ℕ → ℕ → ℕ → Bool → ℚ) → p < n2 →
    ((i k m : ℕ) → IsCut p (λ j. f i j k m) (λ j. f' i j k m)) → ((i k e rs : ℕ) (low : Bool) → IsCut p (λ j. g i j k e rs low) (λ j. g' i j k e rs low)) →
    grid n (suc n2) n3 (λ i j k. in_both p (λ j. c i j k) j) f' g' ≡ grid n n2 n3 c f g
grid_second n n2 n3 p c f f' g g' l cells faces =
    total-cong n3 (λ k. total (suc n2) (λ j. line n (λ i. in_both p (λ j. c i j k) j) (λ i. f' i j k) (λ i. g' i j k))) (λ k. total n2 (λ j. line n (λ i. c i j k) (λ i. f i j k) (λ i. g i j k)))
    (λ k hk. cut-total n2 p (λ j. line n (λ i. c i j k) (λ i. f i j k) (λ i. g i j k)) (λ j. line n (λ i. in_both p (λ j. c i j k) j) (λ i. f' i j k) (λ i. g' i j k)) l
    (line_cut p n (λ i j. c i j k) (λ i j. f i j k) (λ i j. f' i j k) (λ i j. g i j k) (λ i j. g' i j k) (λ i m. cells i k m) (λ i e rs low. faces i k e rs low)))

pub grid_third : (n n2 n3 p : ℕ) (c : ℕ → ℕ → ℕ → Option Content) (f f' : ℕ → ℕ → ℕ → ℕ → ℚ) (g g' : ℕ → ℕ → ℕ → ℕ → ℕ → Bool → ℚ) → p < n3 →
    ((i j m : ℕ) → IsCut p (λ k. f i j k m) (λ k. f' i j k m)) → ((i j e rs : ℕ) (low : Bool) → IsCut p (λ k. g i j k e rs low) (λ k. g' i j k e rs low)) →
    grid n n2 (suc n3) (λ i j k. in_both p (λ k. c i j k) k) f' g' ≡ grid n n2 n3 c f g
grid_third n n2 n3 p c f f' g g' l cells faces =
    cut-total n3 p (λ k. total n2 (λ j. line n (λ i. c i j k) (λ i. f i j k) (λ i. g i j k))) (λ k. total n2 (λ j. line n (λ i. in_both p (λ k. c i j k) k) (λ i. f' i j k) (λ i. g' i j k))) l
    (cut-sum p n2 (λ j k. line n (λ i. c i j k) (λ i. f i j k) (λ i. g i j k)) (λ j k. line n (λ i. in_both p (λ k. c i j k) k) (λ i. f' i j k) (λ i. g' i j k))
    (λ j. line_cut p n (λ i k. c i j k) (λ i k. f i j k) (λ i k. f' i j k) (λ i k. g i j k) (λ i k. g' i j k) (λ i m. cells i j m) (λ i e rs low. faces i j e rs low)))
