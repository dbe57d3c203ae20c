use Rattle.mig_dirtysave_parts.proofs.Common.{◌≡◌, is_early, is_setting, parts_alone}
use Rattle.mig_dirtysave_parts.proofs.Walks.{remaining, Copied}
use Rattle.mig_dirtysave_parts.proofs.prepare.fill_parts.Given as goal

abbrev pub invariant-loop-key : goal.invariant-loop-key
invariant-loop-key g l = record {
  early : l.early ≡ parts_alone (g.M.Machine.state l.machine).host.kind (g.M.Machine.state l.machine).host.width l.early.parts;
  settings : l.settings ≡ parts_alone (g.M.Machine.state l.machine).host.kind (g.M.Machine.state l.machine).host.width l.settings.parts;
  kept : Copied is_early (g.M.Machine.state l.machine).host.parts l.after l.early.parts;
  changing : Copied is_setting (g.M.Machine.state l.machine).host.parts l.after l.settings.parts;
}

abbrev pub decreases-loop-key : goal.decreases-loop-key
decreases-loop-key g l = remaining (g.M.Machine.state l.machine).host.parts l.after
