use Rattle.mig_legacy.proofs.Common.{◌≡◌, ◌≢◌, ℕ, AgreesWithJudging, ChunkKind, Batch, Toolstack, content_form, refl, rules, judged_as, subst, sym, ◌∙◌, VcpuMap, Tsc, Param, put_chunk_frames, NotesOn}
use Rattle.mig_legacy.proofs.Noted.{other_noted}
use Rattle.mig_legacy.proofs.Contents.{takes_batch, takes_toolstack}
use Rattle.mig_legacy.proofs.read.ChunksSeen.take_content.Goals as goal

pub returns-in-Batch-clause-read : goal.returns-in-Batch-clause-read
returns-in-Batch-clause-read g c = λ chunks seen.
    let old = c.args.self.now in
    takes_batch g.F.KeepsFrames.put old (record { guest = c.take_batch.new.guest; emulators = old.emulators; chunks = old.chunks; requests = old.requests; buffered = old.buffered }) chunks c.args.kind _ _ c.take_batch.result refl refl refl c.in-Batch.count c.in-Batch.is refl c.take_batch.ensures.read

pub returns-in-Toolstack-clause-read : goal.returns-in-Toolstack-clause-read
returns-in-Toolstack-clause-read g c = λ chunks seen.
    let old = c.args.self.now in
    takes_toolstack g.F.KeepsFrames.put old (record { guest = old.guest; emulators = c.take_toolstack.new.emulators; chunks = old.chunks; requests = old.requests; buffered = old.buffered }) chunks c.args.kind _ _ c.take_toolstack.result refl refl refl c.in-Toolstack.is seen.emulators refl c.take_toolstack.ensures.read

pub returns-in-Tsc-clause-read : goal.returns-in-Tsc-clause-read
unfolding judged_as
returns-in-Tsc-clause-read g c = let told = c.take_clock.ensures.read g.F.KeepsFrames.put in search rules

pub returns-in-Param-clause-read : goal.returns-in-Param-clause-read
unfolding judged_as
returns-in-Param-clause-read g c = let told = c.take_value.ensures.read g.F.KeepsFrames.put in search rules

pub returns-in-Batch-clause-noted : goal.returns-in-Batch-clause-noted
returns-in-Batch-clause-noted g c = λ chunks seen.
    subst (λ (kind : ChunkKind). AgreesWithJudging (λ _ said. NotesOn g.F.KeepsFrames.notes c.args.keeper.now c.take_batch.new.keeper (g.S.Source.left c.args.src.now) (g.S.Source.left c.take_batch.new.src) (put_chunk_frames said)) (g.S.Source.left c.args.src.now) (g.S.Source.left c.take_batch.new.src) (judged_as (content_form chunks kind)) c.take_batch.result)
    (sym c.in-Batch.is) c.take_batch.ensures.noted

pub returns-in-Toolstack-clause-noted : goal.returns-in-Toolstack-clause-noted
returns-in-Toolstack-clause-noted g c = λ chunks seen.
    let other : (n : ℕ) → c.args.kind ≢ Batch n = λ n is. let no : Toolstack ≡ Batch n = sym c.in-Toolstack.is ∙ is in absurd (cc) in
    other_noted g.F.KeepsFrames.notes c.goes_on.ensures.read_on _ c.args.keeper.now _ _ chunks c.args.kind _ other (returns-in-Toolstack-clause-read g c chunks seen)

pub returns-in-Tsc-clause-noted : goal.returns-in-Tsc-clause-noted
returns-in-Tsc-clause-noted g c = λ chunks seen.
    let other : (n : ℕ) → c.args.kind ≢ Batch n = λ n is. let no : Tsc ≡ Batch n = sym c.in-Tsc.is ∙ is in absurd (cc) in
    other_noted g.F.KeepsFrames.notes c.goes_on.ensures.read_on _ c.args.keeper.now _ _ chunks c.args.kind _ other (returns-in-Tsc-clause-read g c chunks seen)

pub returns-in-Param-clause-noted : goal.returns-in-Param-clause-noted
returns-in-Param-clause-noted g c = λ chunks seen.
    let other : (n : ℕ) → c.args.kind ≢ Batch n = λ n is. let no : Param c.in-Param.index ≡ Batch n = sym c.in-Param.is ∙ is in absurd (cc) in
    other_noted g.F.KeepsFrames.notes c.goes_on.ensures.read_on _ c.args.keeper.now _ _ chunks c.args.kind _ other (returns-in-Param-clause-read g c chunks seen)

pub returns-in-VcpuMap-clause-read : goal.returns-in-VcpuMap-clause-read
unfolding judged_as
returns-in-VcpuMap-clause-read g c = search rules

pub returns-in-VcpuMap-clause-noted : goal.returns-in-VcpuMap-clause-noted
returns-in-VcpuMap-clause-noted g c = λ chunks seen.
    let other : (n : ℕ) → c.args.kind ≢ Batch n = λ n is. let no : VcpuMap ≡ Batch n = sym c.in-VcpuMap.is ∙ is in absurd (cc) in
    other_noted g.F.KeepsFrames.notes c.goes_on.ensures.read_on _ c.args.keeper.now _ _ chunks c.args.kind _ other (returns-in-VcpuMap-clause-read g c chunks seen)
