use Rattle.mig_host.proofs.Common.{◌≡◌, Result, Ok, Err, sym, subst, IsHostPart, FitsPolicy, HostAndSpare, IsMade, OnOk, OnErr}
use Rattle.mig_host.proofs.HostsMade.{made_part}
use Rattle.std.specs.FinMap as maps
use Rattle.mig_host.proofs.host.Host.set_part.Goals as goal

-- what holds of both that a call may leave
either : {T E X : Type 0} (P : X → Type 0) (r : Result T E) (n a b : X) → OnOk r (n ≡ a) → OnErr r (n ≡ b) → P a → P b → P n
either P (Ok x) n a b is _ p q = subst P (sym is) p
either P (Err y) n a b _ is p q = subst P (sym is) q

pub invariant_of-self : goal.invariant_of-self
invariant_of-self c =
    let h = c.self.inside in let key = c.args.key in let bytes = c.args.bytes.now in
    either (IsMade h.kind h.width h.frames.frames h.machines.machines) c.set.result c.set.new.self (maps.insert h.parts key bytes) h.parts c.set.ensures.ok c.set.ensures.err
    (made_part h.kind h.width h.frames.frames h.machines.machines h.parts key bytes c.self.invariant (subst (λ (x : HostAndSpare). IsHostPart x.host.kind x.host.width key bytes) (sym c.self.view_is) c.requires.is)
    (subst (λ (x : HostAndSpare). FitsPolicy 17 (maps.insert x.host.parts key bytes)) (sym c.self.view_is) c.requires.leaves)
    (subst (λ (x : HostAndSpare). FitsPolicy 18 (maps.insert x.host.parts key bytes)) (sym c.self.view_is) c.requires.msrs))
    c.self.invariant
