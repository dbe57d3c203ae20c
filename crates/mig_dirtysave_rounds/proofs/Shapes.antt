-- What stays the same of a machine, from call to call.
use Rattle.mig_dirtysave_rounds.proofs.Common.{◌∙◌, refl, ℕ, HostOf, Pfns, MachineState, Ran, ReadsFront, KeepsShape, IsSameShape}

pub shape_none : (h : HostOf) → IsSameShape h h
shape_none h = record { kind = refl; width = refl; lengths = λ key. refl; fixed = λ key is. refl }

pub shape_on : (g h k : HostOf) → IsSameShape g h → IsSameShape h k → IsSameShape g k
shape_on g h k a b = record {
  kind = b.kind ∙ a.kind;
  width = b.width ∙ a.width;
  lengths = λ key. b.lengths key ∙ a.lengths key;
  fixed = λ key is. b.fixed key is ∙ a.fixed key is;
}

pub stays_on : (s t u : MachineState) → KeepsShape s t → KeepsShape t u → KeepsShape s u
stays_on s t u a b = record { shape = shape_on s.host t.host u.host a.shape b.shape; honest = b.honest ∙ a.honest }

pub ran_stays : (s t : MachineState) (log : Pfns) → Ran s t log → KeepsShape s t
ran_stays s t log ran = record { shape = ran.shape; honest = ran.honest }

pub reads_stay : (i : ℕ) (set : Pfns) (s t : MachineState) → ReadsFront i set s t → KeepsShape s t
reads_stay i set s t reads = record { shape = reads.shape; honest = reads.honest }
