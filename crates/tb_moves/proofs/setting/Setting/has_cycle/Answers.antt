use Rattle.std.proofs.Common.{◌≡◌, ◌<◌, ℕ, ◌∙◌, ap, arith, subst, sym}
use Rattle.std.proofs.lemmas.Bool.{ltb-true}
use Rattle.tb_places.specs.Places.{Counts, face_count}
use Rattle.tb_grid.specs.Grid.{counts_of}
use Rattle.tb_cycles.specs.Entries.{HasCycle}
use Rattle.tb_trees.specs.Bodies as bodies
use Rattle.tb_trees.specs.Bodies.{BodyOnGrid}
use Rattle.tb_moves.specs.Settings.{KeepsSetting, Setting, mesh_in}
use Rattle.tb_moves.proofs.setting.Setting.has_cycle.Goals as goal

pub has_cycle-requires : goal.has_cycle-requires
has_cycle-requires c =
    let keeps = subst (λ (s : Setting). KeepsSetting s c.self.inside.tables c.self.inside.tree) c.self.view_is c.self.invariant in
    let count : c.faces.result ≡ face_count (mesh_in c.args.self.now).cells = c.faces.ensures ∙ ap (λ (n : Counts). face_count n) c.counts.ensures in
    subst (λ (b : BodyOnGrid). c.args.face.0 < face_count (counts_of b.grid)) (sym keeps.outlets) (subst (λ (n : ℕ). c.args.face.0 < n) count c.if-face-faces.true)

pub returns-then-face-faces : goal.returns-then-face-faces
returns-then-face-faces c =
    let keeps = subst (λ (s : Setting). KeepsSetting s c.self.inside.tables c.self.inside.tree) c.self.view_is c.self.invariant in
    let count : c.faces.result ≡ face_count (mesh_in c.args.self.now).cells = c.faces.ensures ∙ ap (λ (n : Counts). face_count n) c.counts.ensures in (
      λ t. (subst (λ (n : ℕ). c.args.face.0 < n) count c.if-face-faces.true, subst (λ (b : BodyOnGrid). HasCycle (bodies.mesh_of b) c.args.face.0) keeps.outlets (c.has_cycle.ensures.0 t)),
      λ h. c.has_cycle.ensures.1 (subst (λ (b : BodyOnGrid). HasCycle (bodies.mesh_of b) c.args.face.0) (sym keeps.outlets) h.1),
    )

pub returns-else-face-faces : goal.returns-else-face-faces
returns-else-face-faces c =
    let count : c.faces.result ≡ face_count (mesh_in c.args.self.now).cells = c.faces.ensures ∙ ap (λ (n : Counts). face_count n) c.counts.ensures in
    (λ t. absurd (omega (arith, c.if-face-faces.false, ltb-true c.args.face.0 c.faces.result t)), λ h. absurd (omega (arith, c.if-face-faces.false, count, h.0)))
