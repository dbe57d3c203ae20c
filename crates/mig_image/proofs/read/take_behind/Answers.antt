use Rattle.mig_image.proofs.Common.{◌≡◌, HostOf, OnOk, Option, List, ℕ, Result, Ok, Err, rules, takes_more, refl, TakesBytes}
use Rattle.mig_image.proofs.Readers.{count_stops, frames_stop, parts_then}
use Rattle.mig_image.proofs.read.take_behind.Goals as goal

-- it stands at this host now
abbrev At : HostOf → Unit {0} → HostOf → Type 0
At now u h = now ≡ h

-- bytes that were taken, and then more or not
then_takes : {X : Type 0} (a b c : Option (List ℕ)) (r : Result (Unit {0}) X) → TakesBytes a b → OnOk r (TakesBytes b c) → OnOk r (TakesBytes a c)
then_takes a b c (Ok u) first more = takes_more a b c first more
then_takes a b c (Err e) first more = tt

pub returns-in_err-read_frames-clause-read : goal.returns-in_err-read_frames-clause-read
returns-in_err-read_frames-clause-read g c =
    let now = c.read_frames.new.host.host in
    frames_stop c.args.head.now c.args.host.now.host c.requires.opened c.u64_le.result c.u64_le.ensures c.version_in.result c.version_in.ensures (At now) _ _ now c.from_residual.result c.in_err-read_frames.field-0.0 (search rules) c.in_err-read_frames.ensures.read

pub returns-in-Err-clause-read : goal.returns-in-Err-clause-read
returns-in-Err-clause-read g c =
    let now = c.read_frames.new.host.host in
    count_stops c.args.head.now c.args.host.now.host c.requires.opened c.u64_le.result c.u64_le.ensures c.version_in.result c.version_in.ensures (At now) _ _ now _ c.in_ok-read_frames.ensures.read _ c.in-Err.stop c.at.result c.at.ensures refl c.in-Err.ensures.read

pub returns-clause-read : goal.returns-clause-read
returns-clause-read g c =
    parts_then c.args.head.now c.args.host.now.host c.requires.opened c.u64_le.result c.u64_le.ensures c.version_in.result c.version_in.ensures (At c.read_parts.new.host.host) _ _ c.read_frames.new.host.host c.read_parts.result c.in_ok-read_frames.ensures.read _ _ c.in-Ok.count c.in-Ok.ensures.read c.read_parts.ensures.read

pub returns-clause-taken : goal.returns-clause-taken
returns-clause-taken g c = then_takes _ _ _ c.read_parts.result (takes_more _ _ _ c.in_ok-read_frames.ensures.taken c.in-Ok.ensures.taken) c.read_parts.ensures.taken
