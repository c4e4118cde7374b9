-- Where the points of a box have their places in a list.
use Rattle.std.specs.Prelude.{ℕ, ◌+◌}
use Rattle.tb_gradients.specs.declared.layout.Layout.{Layout}

-- how long a list is that has a place for each point, and a layer of places before and after them
abbrev pub places_of : Layout → ℕ
places_of l = l.points + l.layer + l.layer
