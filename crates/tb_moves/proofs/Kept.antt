-- What moves leave of what a session keeps.
use Rattle.std.proofs.Common.{◌≡◌, ◌≢◌, ◌↔◌, ◌<◌, ◌||◌, refl, sym, ap, ◌∙◌, subst, ℕ, Bool, true, false, IsTrue, IsFalse, List, [], ◌∷◌, ◌++◌, get_or, map, Option, None, inl, inr}
use Rattle.std.proofs.lemmas.Bool.{false≢true, true≢false}
use Rattle.std.specs.List.{All}
use Rattle.std.proofs.lemmas.List.Elements.{All-cons, All-contains, All-nil, Contains-append_left, Contains-append_right, Contains-get_or}
use lib.IntN.{ℤ}
use Rattle.tb_places.specs.declared.AxisName.{AxisName}
use Rattle.tb_places.specs.declared.Place.{Place}
use Rattle.tb_places.specs.Inverse.{node_place}
use Rattle.tb_places.specs.Places.{face_count, node_count, node_number}
use Rattle.tb_places.proofs.Nodes.{node_number_of_place, node_place_within}
use Rattle.tb_model.specs.Energy.{Case}
use Rattle.tb_model.specs.Mesh.{Mesh}
use Rattle.tb_math.proofs.SumInstances.{int_trans}
use Rattle.tb_weighted.specs.Sequences.{AreMade}
use Rattle.tb_weighted.specs.Moves.{IsInnerEdge, IsLoopMove, IsNodeMove, IsPass, Move, State, counting, loop_moves, nodes, pass_moves}
use Rattle.tb_weighted.specs.Moves as weighted
use Rattle.tb_weighted.specs.Moves.Move.{Loop, Node}
use Rattle.tb_weighted.proofs.SequenceLaws.{alone, lifted, renamed, then}
use Rattle.tb_cycles.specs.Moves.{IsCycleMove}
use Rattle.tb_cycle_moves.specs.Turns.{AreCycleTurns, IsCycleTurn}
use Rattle.tb_cycle_moves.proofs.Keeping.{keeps_balance, keeps_limits, lowers}
use Rattle.tb_costs.specs.Admissible.{HasMove, IsAdmissible}
use Rattle.tb_costs.proofs.Filling.{body_fills}
use Rattle.tb_costs.proofs.Moves.{by_moves, pass_has}
use Rattle.tb_moves.specs.FluxPasses.{IsFluxMove}
use Rattle.tb_moves.specs.Keeping.{IsKeptEnd, KeepsSession}
use Rattle.tb_moves.specs.Sessions.{Session, inside_of, lower_of, mesh_of, state_of, upper_of, with_field, with_flux}
use Rattle.tb_moves.proofs.Lists.{same_lists}

-- a change that isn't told is none
pub not_told : (told : Bool) (old new : List ℤ) → (IsTrue told ↔ (new ≢ old)) → IsFalse told → new ≡ old
not_told told old new h f = same_lists new old (λ n. false≢true (sym f ∙ h.1 n))

-- an end that is kept unless what it is an end of has changed
end_kept : (told : Bool) (after kept : Option ℤ) (end end' : ℤ) (most : ℕ) → (IsTrue told → after ≡ None) → (IsFalse told → after ≡ kept) → (IsFalse told → end' ≡ end)
    → IsKeptEnd kept end most → IsKeptEnd after end' most
end_kept true after kept end end' most h k same i = subst (λ (o : Option ℤ). IsKeptEnd o end' most) (sym (h refl)) tt
end_kept false after kept end end' most h k same i = subst (λ (o : Option ℤ). IsKeptEnd o end' most) (sym (k refl)) (subst (λ (e : ℤ). IsKeptEnd kept e most) (sym (same refl)) i)

-- several moves of which none is told
first : (x y : Bool) → (x || y) ≡ false → x ≡ false
first true y e = absurd (true≢false e)
first false y e = refl

last : (x y : Bool) → (x || y) ≡ false → y ≡ false
last true y e = absurd (true≢false e)
last false y e = e

pub none_told : (M : Type 0) (move : M → List ℤ → List ℤ → Type 0) (ms : List M) (old new : List ℤ) (told : Bool) → AreMade (List ℤ) M move ms old new told → IsFalse told → new ≡ old
none_told M move [] old new told (same, none) f = same
none_told M move (m ∷ ms) old new told made f =
    none_told M move ms made.mid new made.told_after made.after (last made.told_here made.told_after (sym made.any ∙ f))
    ∙ not_told made.told_here old made.mid made.here (first made.told_here made.told_after (sym made.any ∙ f))

-- parts of a list
all_left : {M : Type 0} (P : M → Type 0) (xs ys : List M) → All P (xs ++ ys) → All P xs
all_left P xs ys all = λ k none within. All-contains P (xs ++ ys) (get_or xs k none) all (Contains-append_left xs ys (get_or xs k none) (Contains-get_or xs k none within))

all_right : {M : Type 0} (P : M → Type 0) (xs ys : List M) → All P (xs ++ ys) → All P ys
all_right P xs ys all = λ k none within. All-contains P (xs ++ ys) (get_or ys k none) all (Contains-append_right xs ys (get_or ys k none) (Contains-get_or ys k none within))

abbrev pub state : List ℤ → List ℤ → State
state field flux = record { field = field; flux = flux }

-- the nodes' and the loops' parts of a pass as lists of moves
module _ (m : Mesh) (inside : Case) where
  abbrev IsFieldMove : Move → List ℤ → List ℤ → Type 0
  IsFieldMove (Node p) old new = IsNodeMove m inside (node_number m.cells p) old new
  IsFieldMove (Loop a p) old new = ⊥

  on_field : (flux : List ℤ) (move : Move) (old new : List ℤ) → IsFieldMove move old new → weighted.IsMove m inside move (state old flux) (state new flux)
  on_field flux (Node p) old new h = (h, refl)
  on_field flux (Loop a p) old new h = absurd h

  on_flux : (field : List ℤ) (move : Move) (old new : List ℤ) → IsFluxMove m inside move old new → weighted.IsMove m inside move (state field old) (state field new)
  on_flux field (Node p) old new h = absurd h
  on_flux field (Loop a p) old new h = (h, refl)

  pub nodes_made : (flux old new : List ℤ) (told : Bool) → AreMade (List ℤ) Place (λ p. IsNodeMove m inside (node_number m.cells p)) (nodes m.cells) old new told
      → weighted.AreMoves m inside (map Node (nodes m.cells)) (state old flux) (state new flux) told
  nodes_made flux old new told r = lifted (List ℤ) State Move IsFieldMove (weighted.IsMove m inside) (λ v. state v flux) (λ u v p. ap (λ (s : State). s.field) p) (on_field flux) (map Node (nodes m.cells)) old new told
      (renamed (List ℤ) Place Move (λ (p : Place). IsNodeMove m inside (node_number m.cells p)) IsFieldMove Node (λ p k l h. h) (nodes m.cells) old new told r)

  pub loops_made : (field old new : List ℤ) (told : Bool) → AreMade (List ℤ) Move (IsFluxMove m inside) (loop_moves m.cells) old new told
      → weighted.AreMoves m inside (loop_moves m.cells) (state field old) (state field new) told
  loops_made field old new told r = lifted (List ℤ) State Move (IsFluxMove m inside) (weighted.IsMove m inside) (λ v. state field v) (λ u v p. ap (λ (s : State). s.flux) p) (on_flux field) (loop_moves m.cells) old new told r

  pub pass_made : (field field' flux flux' : List ℤ) (x y : Bool) → AreMade (List ℤ) Place (λ p. IsNodeMove m inside (node_number m.cells p)) (nodes m.cells) field field' x
      → AreMade (List ℤ) Move (IsFluxMove m inside) (loop_moves m.cells) flux flux' y → IsPass m inside (state field flux) (state field' flux') (x || y)
  pass_made field field' flux flux' x y a b = then State Move (weighted.IsMove m inside) (map Node (nodes m.cells)) (loop_moves m.cells) (state field flux) (state field' flux) (state field' flux') x y
      (nodes_made flux field field' x a) (loops_made field' flux flux' y b)

  pub nodes_have : All (HasMove m.cells) (map Node (nodes m.cells))
  nodes_have = all_left (HasMove m.cells) (map Node (nodes m.cells)) (loop_moves m.cells) (pass_has m.cells)

  pub loops_have : All (HasMove m.cells) (loop_moves m.cells)
  loops_have = all_right (HasMove m.cells) (map Node (nodes m.cells)) (loop_moves m.cells) (pass_has m.cells)

  -- cycles
  pub cycle_admissible : (field : List ℤ) (f : ℕ) (old new : List ℤ) → IsCycleMove m inside f old new → IsAdmissible m inside (state field old) → IsAdmissible m inside (state field new)
  cycle_admissible field f old new move h = record {
    field = h.field;
    flux = keeps_limits m inside f old new move h.flux;
    balanced = keeps_balance m inside f old new move h.balanced;
    energy = int_trans _ _ _ (lowers m inside f old new move h.flux) h.energy;
  }

  turn_admissible : (field : List ℤ) (f : ℕ) (old new : List ℤ) → IsCycleTurn m inside f old new → IsAdmissible m inside (state field old) → IsAdmissible m inside (state field new)
  turn_admissible field f old new (inl move) h = cycle_admissible field f old new move h
  turn_admissible field f old new (inr (none, same)) h = subst (λ (v : List ℤ). IsAdmissible m inside (state field v)) (sym same) h

  turns_admissible : (field : List ℤ) (fs : List ℕ) (old new : List ℤ) (told : Bool) → AreMade (List ℤ) ℕ (IsCycleTurn m inside) fs old new told → IsAdmissible m inside (state field old) → IsAdmissible m inside (state field new)
  turns_admissible field [] old new told (same, none) h = subst (λ (v : List ℤ). IsAdmissible m inside (state field v)) (sym same) h
  turns_admissible field (f ∷ fs) old new told made h = turns_admissible field fs made.mid new made.told_after made.after (turn_admissible field f old made.mid made.step h)

  pub cycles_admissible : (field old new : List ℤ) (told : Bool) → AreCycleTurns m inside old new told → IsAdmissible m inside (state field old) → IsAdmissible m inside (state field new)
  cycles_admissible field old new told made h = turns_admissible field (counting 0 (face_count m.cells)) old new told made h

module _ (s : Session) (upper lower : Option ℤ) (keeps : KeepsSession s upper lower) where
  abbrev m : Mesh
  m = mesh_of s

  abbrev inside : Case
  inside = inside_of s

  pub moved : (moves : List Move) (new : State) (told : Bool) → All (HasMove m.cells) moves → weighted.AreMoves m inside moves (state_of s) new told → IsAdmissible m inside new
  moved moves new told has made = (by_moves m inside (body_fills s.body s.grid keeps.accepted keeps.carries) moves (state_of s) new told has made keeps.state).admissible

  one_move : (move : Move) (new : State) (told : Bool) → HasMove m.cells move → weighted.IsMove m inside move (state_of s) new → (IsTrue told ↔ (new ≢ state_of s)) → IsAdmissible m inside new
  one_move move new told has made h = moved (move ∷ []) new told (All-cons (HasMove m.cells) move [] has (All-nil (HasMove m.cells)))
      (alone State Move (weighted.IsMove m inside) move (state_of s) new told made h)

  pub field_kept : (new : List ℤ) (told : Bool) (after : Option ℤ) → IsAdmissible m inside (state new s.flux) → (IsFalse told → new ≡ s.field)
      → (IsTrue told → after ≡ None) → (IsFalse told → after ≡ upper) → KeepsSession (with_field s new) after lower
  field_kept new told after admissible same none kept = record {
    limits = keeps.limits;
    accepted = keeps.accepted;
    grid = keeps.grid;
    carries = keeps.carries;
    state = admissible;
    highest = end_kept told after upper (upper_of s s.field) (upper_of s new) _ none kept (λ f. ap (λ (v : List ℤ). upper_of s v) (same f)) keeps.highest;
    lowest = keeps.lowest;
  }

  pub flux_kept : (new : List ℤ) (told : Bool) (after : Option ℤ) → IsAdmissible m inside (state s.field new) → (IsFalse told → new ≡ s.flux)
      → (IsTrue told → after ≡ None) → (IsFalse told → after ≡ lower) → KeepsSession (with_flux s new) upper after
  flux_kept new told after admissible same none kept = record {
    limits = keeps.limits;
    accepted = keeps.accepted;
    grid = keeps.grid;
    carries = keeps.carries;
    state = admissible;
    highest = keeps.highest;
    lowest = end_kept told after lower (lower_of s s.flux) (lower_of s new) _ none kept (λ f. ap (λ (v : List ℤ). lower_of s v) (same f)) keeps.lowest;
  }

  pub node_kept : (node : ℕ) (new : List ℤ) (told : Bool) (after : Option ℤ) → node < node_count m.cells → IsNodeMove m inside node s.field new
      → (IsTrue told ↔ (new ≢ s.field)) → (IsTrue told → after ≡ None) → (IsFalse told → after ≡ upper) → KeepsSession (with_field s new) after lower
  node_kept node new told after within made h none kept = field_kept new told after
      (one_move (Node (node_place m.cells node)) (state new s.flux) told (node_place_within m.cells node within)
      (subst (λ (n : ℕ). IsNodeMove m inside n s.field new) (sym (node_number_of_place m.cells node)) made, refl)
      ((λ t e. h.0 t (ap (λ (u : State). u.field) e)), (λ n. h.1 (λ e. n (ap (λ (v : List ℤ). state v s.flux) e)))))
      (not_told told s.field new h) none kept

  pub loop_kept : (axis : AxisName) (e : Place) (new : List ℤ) (told : Bool) (after : Option ℤ) → IsInnerEdge m.cells axis e → IsLoopMove m inside axis e s.flux new
      → (IsTrue told ↔ (new ≢ s.flux)) → (IsTrue told → after ≡ None) → (IsFalse told → after ≡ lower) → KeepsSession (with_flux s new) upper after
  loop_kept axis e new told after inner made h none kept = flux_kept new told after
      (one_move (Loop axis e) (state s.field new) told inner (made, refl)
      ((λ t e. h.0 t (ap (λ (u : State). u.flux) e)), (λ n. h.1 (λ e. n (ap (λ (v : List ℤ). state s.field v) e)))))
      (not_told told s.flux new h) none kept

  pub cycle_kept : (f : ℕ) (new : List ℤ) (told : Bool) (after : Option ℤ) → IsCycleMove m inside f s.flux new
      → (IsTrue told ↔ (new ≢ s.flux)) → (IsTrue told → after ≡ None) → (IsFalse told → after ≡ lower) → KeepsSession (with_flux s new) upper after
  cycle_kept f new told after made h none kept = flux_kept new told after (cycle_admissible m inside s.field f s.flux new made keeps.state) (not_told told s.flux new h) none kept

  pub nodes_kept : (new : List ℤ) (told : Bool) (after : Option ℤ) → AreMade (List ℤ) Place (λ p. IsNodeMove m inside (node_number m.cells p)) (nodes m.cells) s.field new told
      → (IsTrue told → after ≡ None) → (IsFalse told → after ≡ upper) → KeepsSession (with_field s new) after lower
  nodes_kept new told after made none kept = field_kept new told after (moved (map Node (nodes m.cells)) (state new s.flux) told (nodes_have m inside) (nodes_made m inside s.flux s.field new told made))
      (none_told Place (λ p. IsNodeMove m inside (node_number m.cells p)) (nodes m.cells) s.field new told made) none kept

  pub loops_kept : (new : List ℤ) (told : Bool) (after : Option ℤ) → AreMade (List ℤ) Move (IsFluxMove m inside) (loop_moves m.cells) s.flux new told
      → (IsTrue told → after ≡ None) → (IsFalse told → after ≡ lower) → KeepsSession (with_flux s new) upper after
  loops_kept new told after made none kept = flux_kept new told after (moved (loop_moves m.cells) (state s.field new) told (loops_have m inside) (loops_made m inside s.field s.flux new told made))
      (none_told Move (IsFluxMove m inside) (loop_moves m.cells) s.flux new told made) none kept

  pub cycles_kept : (new : List ℤ) (told : Bool) (after : Option ℤ) → AreCycleTurns m inside s.flux new told
      → (IsTrue told → after ≡ None) → (IsFalse told → after ≡ lower) → KeepsSession (with_flux s new) upper after
  cycles_kept new told after made none kept = flux_kept new told after (cycles_admissible m inside s.field s.flux new told made keeps.state)
      (none_told ℕ (IsCycleTurn m inside) (counting 0 (face_count m.cells)) s.flux new told made) none kept
