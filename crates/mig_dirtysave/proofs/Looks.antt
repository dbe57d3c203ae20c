-- Look-ups in a paused machine, one after another.
use Rattle.mig_dirtysave.proofs.Common.{refl, ◌∙◌, MachineState, OnlyLooksUp}
use Rattle.mig_dirtysave_rounds.proofs.Tables.{ran_none, ran_on}

pub looks_none : (s : MachineState) → OnlyLooksUp s s
looks_none s = record { ran = ran_none s; host = refl; paused = refl; taken = refl; live = refl; read = refl; twice = refl }

pub looks_on : {s t u : MachineState} → OnlyLooksUp s t → OnlyLooksUp t u → OnlyLooksUp s u
looks_on {s = s} {t = t} {u = u} a b = record {
  ran = ran_on s t u a.ran a.paused b.ran;
  host = b.host ∙ a.host;
  paused = b.paused ∙ a.paused;
  taken = b.taken ∙ a.taken;
  live = b.live ∙ a.live;
  read = b.read ∙ a.read;
  twice = b.twice ∙ a.twice;
}
