use Rattle.std.proofs.Common.{◌≡◌, ◌∙◌, ap, pos, ◌-ℤ◌, ◌+ℤ◌, arith}
use Rattle.std.proofs.lemmas.Int.{ints}
use Rattle.tb_math.specs.Rational.{int}
use Rattle.tb_terms.proofs.Spread.{whole_spread, whole_spread-is}
use Rattle.tb_sums.specs.Corners.{rises_x, rises_y, rises_z}
use Rattle.tb_sums.proofs.Spreads.{AreModes, difference-squared, from_stored, rises, split_x, split_y, split_z, spread_of_squares, sum-squared}
use Rattle.tb_sums.proofs.modes.spreads_of.Goals as goal

low-is : (c : goal.After-spread-3) → AreModes c.face_modes-low.result.sum c.face_modes-low.result.y c.face_modes-low.result.z c.face_modes-low.result.both c.args.t.t000 c.args.t.t010 c.args.t.t001 c.args.t.t011
low-is c = let t = c.args.t in let r = c.requires in let m = c.face_modes-low.result in let e = c.face_modes-low.ensures in
    from_stored m.sum m.y m.z m.both t.t000 t.t010 t.t001 t.t011 r.at_000 r.at_010 r.at_001 r.at_011
    (record { sum_is = e.sum; y_is = e.y; z_is = e.z; both_is = e.both })

high-is : (c : goal.After-spread-3) → AreModes c.face_modes-high.result.sum c.face_modes-high.result.y c.face_modes-high.result.z c.face_modes-high.result.both c.args.t.t100 c.args.t.t110 c.args.t.t101 c.args.t.t111
high-is c = let t = c.args.t in let r = c.requires in let m = c.face_modes-high.result in let e = c.face_modes-high.ensures in
    from_stored m.sum m.y m.z m.both t.t100 t.t110 t.t101 t.t111 r.at_100 r.at_110 r.at_101 r.at_111
    (record { sum_is = e.sum; y_is = e.y; z_is = e.z; both_is = e.both })

x-is : (c : goal.After-spread-3) → pos c.spread.result ≡ whole_spread (rises_x c.args.t)
x-is c = let t = c.args.t in let m = c.face_modes-low.result in let p = c.face_modes-high.result in
    spread_of_squares c.spread.result c.difference_squared-x.result c.difference_squared-xy.result c.difference_squared-xz.result c.difference_squared-xyz.result
    (p.sum -ℤ m.sum) (p.y -ℤ m.y) (p.z -ℤ m.z) (p.both -ℤ m.both)
    (t.t100 -ℤ t.t000) (t.t110 -ℤ t.t010) (t.t101 -ℤ t.t001) (t.t111 -ℤ t.t011)
    (split_x m.sum m.y m.z m.both p.sum p.y p.z p.both t.t000 t.t100 t.t010 t.t110 t.t001 t.t101 t.t011 t.t111 (low-is c) (high-is c))
    (difference-squared c.difference_squared-x.result p.sum m.sum p.small_sum m.small_sum c.difference_squared-x.ensures.value)
    (difference-squared c.difference_squared-xy.result p.y m.y p.small_y m.small_y c.difference_squared-xy.ensures.value)
    (difference-squared c.difference_squared-xz.result p.z m.z p.small_z m.small_z c.difference_squared-xz.ensures.value)
    (difference-squared c.difference_squared-xyz.result p.both m.both p.small_both m.small_both c.difference_squared-xyz.ensures.value)
    c.spread.ensures.at_most c.spread.ensures.above

y-is : (c : goal.After-spread-3) → pos c.spread-2.result ≡ whole_spread (rises_y c.args.t)
y-is c = let t = c.args.t in let m = c.face_modes-low.result in let p = c.face_modes-high.result in
    spread_of_squares c.spread-2.result c.sum_squared-y.result c.difference_squared-xy.result c.sum_squared-yz.result c.difference_squared-xyz.result
    (p.y +ℤ m.y) (p.y -ℤ m.y) (p.both +ℤ m.both) (p.both -ℤ m.both)
    (t.t010 -ℤ t.t000) (t.t110 -ℤ t.t100) (t.t011 -ℤ t.t001) (t.t111 -ℤ t.t101)
    (split_y m.sum m.y m.z m.both p.sum p.y p.z p.both t.t000 t.t100 t.t010 t.t110 t.t001 t.t101 t.t011 t.t111 (low-is c) (high-is c))
    (sum-squared c.sum_squared-y.result p.y m.y p.small_y m.small_y c.sum_squared-y.ensures.value)
    (difference-squared c.difference_squared-xy.result p.y m.y p.small_y m.small_y c.difference_squared-xy.ensures.value)
    (sum-squared c.sum_squared-yz.result p.both m.both p.small_both m.small_both c.sum_squared-yz.ensures.value)
    (difference-squared c.difference_squared-xyz.result p.both m.both p.small_both m.small_both c.difference_squared-xyz.ensures.value)
    c.spread-2.ensures.at_most c.spread-2.ensures.above

z-is : (c : goal.After-spread-3) → pos c.spread-3.result ≡ whole_spread (rises_z c.args.t)
z-is c = let t = c.args.t in let m = c.face_modes-low.result in let p = c.face_modes-high.result in
    spread_of_squares c.spread-3.result c.sum_squared-z.result c.difference_squared-xz.result c.sum_squared-yz.result c.difference_squared-xyz.result
    (p.z +ℤ m.z) (p.z -ℤ m.z) (p.both +ℤ m.both) (p.both -ℤ m.both)
    (t.t001 -ℤ t.t000) (t.t101 -ℤ t.t100) (t.t011 -ℤ t.t010) (t.t111 -ℤ t.t110)
    (split_z m.sum m.y m.z m.both p.sum p.y p.z p.both t.t000 t.t100 t.t010 t.t110 t.t001 t.t101 t.t011 t.t111 (low-is c) (high-is c))
    (sum-squared c.sum_squared-z.result p.z m.z p.small_z m.small_z c.sum_squared-z.ensures.value)
    (difference-squared c.difference_squared-xz.result p.z m.z p.small_z m.small_z c.difference_squared-xz.ensures.value)
    (sum-squared c.sum_squared-yz.result p.both m.both p.small_both m.small_both c.sum_squared-yz.ensures.value)
    (difference-squared c.difference_squared-xyz.result p.both m.both p.small_both m.small_both c.difference_squared-xyz.ensures.value)
    c.spread-3.ensures.at_most c.spread-3.ensures.above

pub returns-clause-x : goal.returns-clause-x
returns-clause-x c = ap int (x-is c) ∙ whole_spread-is (rises_x c.args.t)

pub returns-clause-y : goal.returns-clause-y
returns-clause-y c = ap int (y-is c) ∙ whole_spread-is (rises_y c.args.t)

pub returns-clause-z : goal.returns-clause-z
returns-clause-z c = ap int (z-is c) ∙ whole_spread-is (rises_z c.args.t)

pub returns-clause-x_size : goal.returns-clause-x_size
returns-clause-x_size c = let t = c.args.t in let r = c.requires in
    omega (arith, ints, x-is c, rises t.t100 t.t000 t.t110 t.t010 t.t101 t.t001 t.t111 t.t011 r.at_100 r.at_000 r.at_110 r.at_010 r.at_101 r.at_001 r.at_111 r.at_011)

pub returns-clause-y_size : goal.returns-clause-y_size
returns-clause-y_size c = let t = c.args.t in let r = c.requires in
    omega (arith, ints, y-is c, rises t.t010 t.t000 t.t110 t.t100 t.t011 t.t001 t.t111 t.t101 r.at_010 r.at_000 r.at_110 r.at_100 r.at_011 r.at_001 r.at_111 r.at_101)

pub returns-clause-z_size : goal.returns-clause-z_size
returns-clause-z_size c = let t = c.args.t in let r = c.requires in
    omega (arith, ints, z-is c, rises t.t001 t.t000 t.t101 t.t100 t.t011 t.t010 t.t111 t.t110 r.at_001 r.at_000 r.at_101 r.at_100 r.at_011 r.at_010 r.at_111 r.at_110)
