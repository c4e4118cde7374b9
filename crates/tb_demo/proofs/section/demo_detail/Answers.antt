use Rattle.std.proofs.Common.{◌≡◌, ◌*◌, sym, subst, rules}
use Rattle.tb_detail.specs.declared.Detail.{Detail}
use Rattle.tb_detail.specs.Limits.{InLimits}
use Rattle.tb_geometry.specs.Faults.{IsAccepted}
use Rattle.tb_demo.specs.Level.{HasLevelCells}
use Rattle.tb_demo.specs.Section.{section}
use Rattle.tb_demo.proofs.Accepted.{section_accepted}
use Rattle.tb_demo.proofs.LevelCells.{section_level}
use Rattle.tb_demo.proofs.Limits.{section_within}
use Rattle.tb_demo.proofs.section.demo_detail.Goals.{After-new-3}
use Rattle.tb_demo.proofs.section.demo_detail.Goals as goal

-- what was made
abbrev made : After-new-3 → Detail
made c = record {
  dimension = 2;
  environments = c.push_environments.new.list.items;
  materials = c.push_materials.new.list.items;
  boxes = c.push_storeys.new.boxes.items;
  parts = c.new.result.items;
  psis = c.new-2.result.items;
  chis = c.new-3.result.items;
}

is_section : (c : After-new-3) → section c.args.storeys ≡ made c
is_section c = let is : made c ≡ section c.args.storeys = search rules in sym is

pub returns-clause-limits : goal.returns-clause-limits
returns-clause-limits c = subst InLimits (is_section c) (section_within c.args.storeys c.requires.few)

pub returns-clause-accepted : goal.returns-clause-accepted
returns-clause-accepted c = subst IsAccepted (is_section c) (section_accepted c.args.storeys c.requires.some c.requires.few)

pub returns-clause-level : goal.returns-clause-level
returns-clause-level c =
    subst (λ (d : Detail). HasLevelCells d (240 * c.args.storeys)) (is_section c) (section_level c.args.storeys c.requires.some c.requires.few)
