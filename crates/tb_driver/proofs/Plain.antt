-- Sessions that are alike, and plain states.
use Rattle.std.proofs.Common.{◌≡◌, ◌∙◌, ap, refl, sym, subst, arith, add-one, ℕ, zero, suc, ◌+◌, ◌≤◌, ◌-◌, Bool}
use Rattle.tb_detail.specs.declared.Detail.{Detail}
use Rattle.tb_grid.specs.Grid.{Axes}
use Rattle.tb_geometry.specs.declared.case.Case.{Case}
use Rattle.tb_geometry.specs.Grids.{mesh_on}
use Rattle.tb_model.specs.Energy as model
use Rattle.tb_model.specs.Mesh.{Mesh}
use Rattle.tb_model.specs.Values.{case_of}
use Rattle.tb_weighted.specs.Moves.{State}
use Rattle.tb_moves.specs.Moves.{IsPlain, IsPlainPass}
use Rattle.tb_trees.specs.Bodies.{BodyOnGrid}
use Rattle.tb_rounds.specs.Rounds.{site_of}
use Rattle.tb_moves.specs.Sessions.{AreAlike, Session, inside_of, mesh_of, state_of}

pub still_alike : (r s t : Session) → AreAlike r s → AreAlike s t → AreAlike r t
still_alike r s t a b = record { body = b.body ∙ a.body; grid = b.grid ∙ a.grid; case = b.case ∙ a.case }

-- what holds in the place of a session holds in that of one that is alike
pub in_place : (P : Detail → Axes → Case → Type 0) (r s : Session) → AreAlike r s → P s.body s.grid s.case → P r.body r.grid r.case
in_place P r s a h =
    subst (λ (d : Detail). P d r.grid r.case) a.body (subst (λ (g : Axes). P s.body g r.case) a.grid (subst (λ (c : Case). P s.body s.grid c) a.case h))

-- one more pass
pub one_more : (r s t : Session) (n : ℕ) (told : Bool) → AreAlike r s → IsPlain (mesh_of r) (inside_of r) n (state_of s)
    → IsPlainPass (mesh_of s) (inside_of s) (state_of s) (state_of t) told → IsPlain (mesh_of r) (inside_of r) (n + 1) (state_of t)
one_more r s t n told a p h = rw add-one (record {
  old = state_of s;
  told = told;
  before = p;
  pass = in_place (λ d g c. IsPlainPass (mesh_on d g) (case_of c.mask) (state_of s) (state_of t) told) r s a h;
})

-- where a pass leaves a plain state, all later passes do
later : (m : Mesh) (inside : model.Case) (s : State) (told : Bool) → IsPlainPass m inside s s told
    → (n k more : ℕ) → n ≡ k + more → IsPlain m inside k s → IsPlain m inside n s
later m inside s told h n k zero e p = let same : k ≡ n = omega arith in subst (λ (i : ℕ). IsPlain m inside i s) same p
later m inside s told h n k (suc more) e p =
    let next : suc (k + more) ≡ n = omega arith in
    subst (λ (i : ℕ). IsPlain m inside i s) next
    (let before : IsPlain m inside (k + more) s = later m inside s told h (k + more) k more refl p in record { old = s; told = told; before = before; pass = h })

pub no_more : (r s t : Session) (n k : ℕ) (told : Bool) → k ≤ n → AreAlike r s → IsPlain (mesh_of r) (inside_of r) k (state_of s)
    → IsPlainPass (mesh_of s) (inside_of s) (state_of s) (state_of t) told → t ≡ s → IsPlain (mesh_of r) (inside_of r) n (state_of t)
no_more r s t n k told l a p h e =
    subst (λ (x : Session). IsPlain (mesh_of r) (inside_of r) n (state_of x)) (sym e)
    (later (mesh_of r) (inside_of r) (state_of s) told
    (in_place (λ d g c. IsPlainPass (mesh_on d g) (case_of c.mask) (state_of s) (state_of s) told) r s a
    (subst (λ (x : Session). IsPlainPass (mesh_of s) (inside_of s) (state_of s) (state_of x) told) e h))
    n k (n - k) (omega arith) p)

same_site : (r s : Session) → AreAlike r s → site_of s ≡ site_of r
same_site r s a = ap (λ (d : Detail). record { body = d; grid = s.grid }) a.body ∙ ap (λ (g : Axes). record { body = r.body; grid = g }) a.grid

-- what rounds work on was made for each session that is alike
pub made_for : (r s : Session) (b c : BodyOnGrid) → b ≡ site_of r → AreAlike r s → c ≡ b → c ≡ site_of s
made_for r s b c made a same = same ∙ (made ∙ sym (same_site r s a))
