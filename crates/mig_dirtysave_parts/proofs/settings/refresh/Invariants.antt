use Rattle.mig_dirtysave_parts.proofs.Common.{◌≡◌, parts_alone}
use Rattle.mig_dirtysave_parts.proofs.Walks.{remaining, Refreshed}
use Rattle.mig_dirtysave_parts.proofs.settings.refresh.Given as goal

abbrev pub invariant-loop-key : goal.invariant-loop-key
invariant-loop-key g l = record {
  bare : l.settings ≡ parts_alone (g.M.Machine.state l.machine).host.kind (g.M.Machine.state l.machine).host.width l.settings.parts;
  refreshed : Refreshed (g.M.Machine.state l.machine).host.parts l.after l.settings.parts;
}

abbrev pub decreases-loop-key : goal.decreases-loop-key
decreases-loop-key g l = remaining (g.M.Machine.state l.machine).host.parts l.after
