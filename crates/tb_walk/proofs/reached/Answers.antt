use Rattle.std.proofs.Common.{◌≡◌, ℕ, ◌++◌, List, Bool, length, sym, subst, ◌∙◌, take, drop}
use Rattle.std.proofs.Math.Seq.{take-append_seam}
use Rattle.tb_places.specs.Places.{Counts}
use Rattle.tb_places.proofs.ByAxis.{same_by_axis}
use Rattle.tb_grid.specs.Grid.{counts_of}
use Rattle.tb_grid.specs.Views.{along_axes}
use Rattle.tb_walk.specs.Marks.{AreReached}
use Rattle.tb_walk.proofs.reached.Goals as goal

-- a slice of a whole list is given back as the list
given_back : (n : ℕ) (new rest : List Bool) → n ≡ length new → take n (new ++ rest) ≡ new
given_back n new rest e = subst (λ (m : ℕ). take m (new ++ rest) ≡ new) (sym e) (take-append_seam new rest)

pub returns : goal.returns
returns c =
    let counts = c.counts-counts.ensures in
    let same : along_axes c.counts-counts.result ≡ counts_of c.args.grid.now = same_by_axis _ _ _ _ counts.on_x counts.on_y counts.on_z in
    let are : AreReached (counts_of c.args.grid.now) c.args.solid.now c.spread_all.new.reached =
    subst (λ (n : Counts). AreReached n c.args.solid.now c.spread_all.new.reached) same c.in_ok-spread_all.ensures in
    rw (given_back c.in_ok-flags.flags.len c.spread_all.new.reached (drop (length c.spread_all.new.reached) c.in_ok-flags.flags.items)
    (c.in_ok-flags.ensures.len ∙ c.requires ∙ sym are.same_length)) are
