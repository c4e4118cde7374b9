use Rattle.std.proofs.Common.{subst}
use Rattle.tb_tables.specs.Sorts.{IsFaceWithin, IsSurfaceWithin}
use Rattle.tb_tables.proofs.sorts.face_row.Goals as goal

pub surface-requires-clause-rs : goal.surface-requires-clause-rs
surface-requires-clause-rs c = let within : IsSurfaceWithin c.in-Surface.rs c.in-Surface.b c.in-Surface.c = subst IsFaceWithin c.in-Surface.is c.requires in within.rs_fits

pub surface-requires-clause-b : goal.surface-requires-clause-b
surface-requires-clause-b c = let within : IsSurfaceWithin c.in-Surface.rs c.in-Surface.b c.in-Surface.c = subst IsFaceWithin c.in-Surface.is c.requires in within.b_fits

pub surface-requires-clause-c : goal.surface-requires-clause-c
surface-requires-clause-c c = let within : IsSurfaceWithin c.in-Surface.rs c.in-Surface.b c.in-Surface.c = subst IsFaceWithin c.in-Surface.is c.requires in within.c_fits
