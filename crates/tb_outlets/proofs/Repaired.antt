-- There is one repair of a flux: what balancing the cells of an order gives.
use Rattle.std.proofs.Common.{◌≡◌, ℕ, zero, suc, ◌<◌, ◌≤◌, max, List, Bool, true, false, length, arith, refl, sym, ap, subst, ◌∙◌, ⊎_elim}
use Rattle.std.specs.Prelude.{ℤ, pos, if◌then◌else◌}
use Rattle.std.proofs.lemmas.Bool.{cases_lt, true≢false}
use Rattle.std.proofs.lemmas.List.{ext_get_or, get_or_past}
use Rattle.tb_math.specs.Rational.{int}
use Rattle.tb_places.specs.declared.AxisName.{AxisName}
use Rattle.tb_places.specs.declared.AxisName.TheVariants.{X, Y, Z}
use Rattle.tb_places.specs.declared.Place.{Place}
use Rattle.tb_places.specs.declared.FacePlace.{FacePlace}
use Rattle.tb_places.specs.Inverse.{cell_place}
use Rattle.tb_places.specs.Places.{Counts, place_at, along, second, third, cell_count, cell_number, face_count, face_number}
use Rattle.tb_places.proofs.Cells.{cell_number_below, cell_place_of_number}
use Rattle.tb_places.proofs.Faces.{face_place_of_number, face_number_below}
use Rattle.tb_grid.specs.declared.ids.CellId.{CellId}
use Rattle.tb_model.specs.Mesh.{Mesh, kind}
use Rattle.tb_model.specs.Values.{flux_of}
use Rattle.tb_model.specs.Energy.{IsBalanced}
use Rattle.tb_walk.specs.Isolated.{IsSolidCell}
use Rattle.tb_model.specs.Mesh.{kind_at}
use Rattle.tb_outlets.specs.declared.side.Side.{Side}
use Rattle.tb_outlets.specs.Flows.{AgreesOff, net}
use Rattle.tb_outlets.specs.Balancing.{flow, balance_all, HaveFaces, IsOrder}
use Rattle.tb_outlets.specs.Sides.{face_of}
use Rattle.tb_outlets.specs.Outlets.{AreDistances, AreOutlets, IsSolidAt}
use Rattle.tb_outlets.specs.Repair.{MarkCarrying, cleared, IsCleared, IsOutletFace, IsRepaired, ListsSolids, carries, kind_of}
use Rattle.tb_outlets.proofs.Uniqueness.{determined}
use Rattle.tb_outlets.proofs.Balances.{all_balanced, kept, length_kept}
use Rattle.tb_outlets.proofs.Sides.{faces_apart, number_below}
use Rattle.tb_outlets.proofs.Trees.{tree}
use Rattle.tb_outlets.proofs.OneOutlet.{face_is_outlet, outlet_is_face, outlet_carries}
use Rattle.tb_outlets.proofs.Balanced.{none_lost, nothing_lost}

-- ---- one at the most

-- the greatest of the first numbers of a row
pub most_of : (ℕ → ℕ) → ℕ → ℕ
most_of f zero = 0
most_of f (suc n) = max (f n) (most_of f n)

pub at_most : (f : ℕ → ℕ) (n k : ℕ) → k < n → f k ≤ most_of f n
unfolding most_of
at_most f zero k below = absurd (omega arith)
at_most f (suc n) k below = ⊎_elim
    (λ (l : k < n). let here = at_most f n k l in omega arith)
    (λ (l : n ≤ k). let same : k ≡ n = omega arith in let here = ap f same in omega arith)
    (cases_lt k n)

off_outlets : (m : Mesh) (given v w : List ℤ) (outlet : ℕ → Side) → AreOutlets m outlet → IsRepaired m given v → IsRepaired m given w →
    AgreesOff (face_of m.cells) (IsSolidAt m) outlet (flow v) (flow w)
off_outlets m given v w outlet outlets first second f other = ⊎_elim
    (λ (l : f < face_count m.cells). by_kind l (carries (kind_of m f)) refl)
    (λ (l : face_count m.cells ≤ f).
    let one = first.count in
    let two = second.count in
    get_or_past v f (pos 0) (omega arith) ∙ sym (get_or_past w f (pos 0) (omega arith)))
    (cases_lt f (face_count m.cells))
  where
    by_kind : f < face_count m.cells → (b : Bool) → carries (kind_of m f) ≡ b → flow v f ≡ flow w f
    by_kind below true is =
        let none = λ (face : IsOutletFace m f). other (face_is_outlet m outlet outlets f face) in
        first.agrees f below is none ∙ sym (second.agrees f below is none)
    by_kind below false is = first.rest f below is ∙ sym (second.rest f below is)

pub balanced_at : (m : Mesh) (v : List ℤ) → IsBalanced m (flux_of m.cells v) → (c : ℕ) → IsSolidAt m c → net (face_of m.cells) (flow v) c ≡ pos 0
balanced_at m v balanced c here =
    let p = cell_place m.cells c in
    none_lost m.cells v c (balanced.cells p.i p.j p.k here.1.1.material here.1.0.0 here.1.0.1 here.1.0.2 here.1.1.fills)

pub one_repair : (m : Mesh) (given v w : List ℤ) (outlet : ℕ → Side) (distance : ℕ → ℕ) → AreOutlets m outlet → AreDistances m distance →
    IsRepaired m given v → IsRepaired m given w → v ≡ w
one_repair m given v w outlet distance outlets distances first second =
    let one = first.count in
    let two = second.count in
    ext_get_or (pos 0) v w (omega arith) (λ f below.
    determined (face_of m.cells) (IsSolidAt m) outlet distance (most_of distance (cell_count m.cells)) (flow v) (flow w)
    (tree m outlet distance outlets distances) (λ c here. at_most distance (cell_count m.cells) c here.0)
    (off_outlets m given v w outlet outlets first second)
    (λ c here. balanced_at m v first.balanced c here ∙ sym (balanced_at m w second.balanced c here)) f)

-- ---- what balancing gives

have_faces : (m : Mesh) (count : ℕ) (cells : List CellId) → count ≡ face_count m.cells → ListsSolids m cells → HaveFaces (face_of m.cells) count cells
have_faces m count cells same lists = record {
  apart = λ c s t within. faces_apart m.cells (cell_place m.cells c.0) s t (lists.solid c within).1.0;
  below = λ c s within. subst (λ (n : ℕ). face_of m.cells c.0 s < n) (sym same) (number_below m.cells (cell_place m.cells c.0) s (lists.solid c within).1.0);
}

-- a face that is no outlet keeps its value
keeps : (m : Mesh) (outlet : ℕ → Side) (start : List ℤ) (order : List CellId) → AreOutlets m outlet → ListsSolids m order → (f : ℕ) →
    ¬ IsOutletFace m f → flow (balance_all (face_of m.cells) outlet start order) f ≡ flow start f
keeps m outlet start order outlets lists f other = kept (face_of m.cells) outlet start order f
    (λ d within same. other (outlet_is_face m outlet outlets f (record { cell = d.0; in_set = lists.solid d within; is = sym same })))

-- the kind of a face of a line is that of its number
pub kind_on_line : (m : Mesh) (a : AxisName) (i j k : ℕ) → i ≤ m.cells a → j < m.cells (second a) → k < m.cells (third a) →
    (f : ℕ) × (f < face_count m.cells) × (kind_of m f ≡ kind m a i j k) × ((values : List ℤ) → along a (flux_of m.cells values a) i j k ≡ int (flow values f))
kind_on_line m X i j k hi hj hk = (
  face_number m.cells X (place_at i j k),
  face_number_below m.cells X (place_at i j k) (hi, hj, hk),
  ap (λ (g : FacePlace). kind_at m g.axis g.place) (face_place_of_number m.cells (record { axis = X; place = place_at i j k }) (hi, hj, hk)),
  λ values. refl,
)
kind_on_line m Y i j k hi hj hk = (
  face_number m.cells Y (place_at j i k),
  face_number_below m.cells Y (place_at j i k) (hj, hi, hk),
  ap (λ (g : FacePlace). kind_at m g.axis g.place) (face_place_of_number m.cells (record { axis = Y; place = place_at j i k }) (hj, hi, hk)),
  λ values. refl,
)
kind_on_line m Z i j k hi hj hk = (
  face_number m.cells Z (place_at j k i),
  face_number_below m.cells Z (place_at j k i) (hj, hk, hi),
  ap (λ (g : FacePlace). kind_at m g.axis g.place) (face_place_of_number m.cells (record { axis = Z; place = place_at j k i }) (hj, hk, hi)),
  λ values. refl,
)

pub is_repaired : (m : Mesh) (given start : List ℤ) (outlet : ℕ → Side) (order : List CellId) → AreOutlets m outlet → ListsSolids m order →
    IsOrder (face_of m.cells) outlet order → IsCleared m given start → IsRepaired m given (balance_all (face_of m.cells) outlet start order)
is_repaired m given start outlet order outlets lists serves cleared = record {
  count = length_kept (face_of m.cells) outlet start order ∙ cleared.count;
  balanced = record {
    cells = λ i j k material hi hj hk is.
        let p : Place = place_at i j k in
        let c = cell_number m.cells p in
        let at = cell_place_of_number m.cells p (hi, hj, hk) in
        let solid : IsSolidCell m p = ((hi, hj, hk), record { material = material; fills = is }) in
        let inside : IsSolidAt m c = (cell_number_below m.cells p (hi, hj, hk), subst (IsSolidCell m) (sym at) solid) in
        let id : CellId = record { 0 = c } in
        nothing_lost m.cells (balance_all (face_of m.cells) outlet start order) c p at
        (all_balanced (face_of m.cells) outlet start order serves (have_faces m (length start) order cleared.count lists) id (lists.all id inside));
    shut = λ a i j k hi hj hk is.
        let face = kind_on_line m a i j k hi hj hk in
        face.3 (balance_all (face_of m.cells) outlet start order) ∙ ap int (stays face.0 face.1 (ap carries (face.2 ∙ is)));
  };
  agrees = λ f below is other. keeps m outlet start order outlets lists f other ∙ cleared.each f below ∙ ap (λ (b : Bool). if b then flow given f else pos 0) is;
  rest = stays;
}
  where
    stays : (f : ℕ) → f < face_count m.cells → carries (kind_of m f) ≡ false → flow (balance_all (face_of m.cells) outlet start order) f ≡ pos 0
    stays f below is =
        keeps m outlet start order outlets lists f (λ face. true≢false (sym (outlet_carries m f face) ∙ is))
        ∙ cleared.each f below ∙ ap (λ (b : Bool). if b then flow given f else pos 0) is

pub is_cleared : (m : Mesh) (flags : List Bool) (given start : List ℤ) → MarkCarrying m flags → length start ≡ face_count m.cells →
    ((f : ℕ) → f < length start → flow start f ≡ cleared flags given f) → IsCleared m given start
is_cleared m flags given start marks count each = record {
  count = count;
  each = λ f below. each f (omega arith) ∙ ap (λ (b : Bool). if b then flow given f else pos 0) (marks.marked f below);
}

-- with counts that are the mesh's
pub repaired_with : (n : Counts) (m : Mesh) (outlet : ℕ → Side) (order : List CellId) (flags : List Bool) (given start : List ℤ) →
    n ≡ m.cells → AreOutlets m outlet → ListsSolids m order → MarkCarrying m flags → IsOrder (face_of n) outlet order →
    length start ≡ face_count n → ((f : ℕ) → f < length start → flow start f ≡ cleared flags given f) →
    IsRepaired m given (balance_all (face_of n) outlet start order)
repaired_with n m outlet order flags given start same outlets lists marks serves count each =
    subst (λ (k : Counts). IsOrder (face_of k) outlet order → length start ≡ face_count k → IsRepaired m given (balance_all (face_of k) outlet start order)) (sym same)
    (λ (here : IsOrder (face_of m.cells) outlet order) (long : length start ≡ face_count m.cells).
    is_repaired m given start outlet order outlets lists here (is_cleared m flags given start marks long each))
    serves count
