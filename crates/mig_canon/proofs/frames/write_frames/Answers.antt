use Rattle.mig_canon.proofs.Common.{◌≡◌, ℕ, ◌<◌, List, refl, sym, ap, subst, ◌∙◌, rules, arith, Appends, AppendsPart, Record, batch, batches, text_of, frame_bodies, spelled, body_of, walk_on, walk_stop}
use Rattle.std.specs.Prelude.{Err}
use Rattle.mig_records_pages.proofs.Copying.{part_same}
use Rattle.mig_canon.proofs.Batches.{counted, batch_next, all_bodies, batch_count}
use Rattle.mig_canon.proofs.frames.write_frames.Goals as goal

abbrev text_in : Record → List ℕ
text_in r = spelled r.0 r.1

pub write_page_data-requires-clause-has : goal.write_page_data-requires-clause-has
write_page_data-requires-clause-has g c =
    let fs = g.F.FrameSequence.frames_from c.args.frames.now 0 in
    let this = counted fs (g.F.FrameSequence.frames_from c.args.frames.now c.loop-k.from) c.loop-k.k c.min-count.result c.frame_count-total.result c.loop-k.invariant.at c.frame_count-total.ensures c.min-count.ensures in
    omega (arith, this.size)

pub returns-in-Err-clause-bytes : goal.returns-in-Err-clause-bytes
returns-in-Err-clause-bytes g c = λ told.
    let fs = g.F.FrameSequence.frames_from c.args.frames.now 0 in let all = frame_bodies fs (batches fs) in let k = c.loop-k.k in
    let this = counted fs (g.F.FrameSequence.frames_from c.args.frames.now c.loop-k.from) k c.min-count.result c.frame_count-total.result c.loop-k.invariant.at c.frame_count-total.ensures c.min-count.ensures in
    let within : k < batches fs = subst (λ n. k < n) (batch_count fs _ _ c.frame_count-total.ensures c.div_ceil-k-end.ensures) c.loop-k-test.true in
    part_same _ _ _ _ (ap text_of (sym (all_bodies fs (batches fs) (batches fs) refl)))
    (walk_stop text_in all k (batches fs) (1, body_of (batch fs k)) _ {X = Unit {0}} _ _ _ (record {}) (Err record {}) (batch_next fs (batches fs) k within) within (c.loop-k.invariant.bytes told) refl
    (subst (λ l. AppendsPart (g.K.Sink.written c.loop-k.sink) (g.K.Sink.written c.write_page_data.new.sink) (spelled 1 (body_of l))) this.batch_is (c.in-Err.ensures.bytes told)))

pub loop-k-preserved : goal.loop-k-preserved
loop-k-preserved g c =
    let fs = g.F.FrameSequence.frames_from c.args.frames.now 0 in let all = frame_bodies fs (batches fs) in let k = c.loop-k.k in
    let this = counted fs (g.F.FrameSequence.frames_from c.args.frames.now c.loop-k.from) k c.min-count.result c.frame_count-total.result c.loop-k.invariant.at c.frame_count-total.ensures c.min-count.ensures in
    let within : k < batches fs = subst (λ n. k < n) (batch_count fs _ _ c.frame_count-total.ensures c.div_ceil-k-end.ensures) c.loop-k-test.true in
    record {
      at = c.in-Ok.ensures.next ∙ this.next_is;
      bytes = λ told. walk_on text_in all k (batches fs) (1, body_of (batch fs k)) _ _ _ _ (batch_next fs (batches fs) k within) (c.loop-k.invariant.bytes told)
          (subst (λ l. Appends (g.K.Sink.written c.loop-k.sink) (g.K.Sink.written c.write_page_data.new.sink) (spelled 1 (body_of l))) this.batch_is (c.in-Ok.ensures.bytes told));
      room = search rules;
      quiet = search rules;
    }

pub returns-clause-bytes : goal.returns-clause-bytes
returns-clause-bytes g c = λ told.
    let fs = g.F.FrameSequence.frames_from c.args.frames.now 0 in
    let end : c.loop-k.k ≡ batches fs = omega (arith, batch_count fs _ _ c.frame_count-total.ensures c.div_ceil-k-end.ensures) in
    subst (λ l. Appends (g.K.Sink.written c.args.sink.now) (g.K.Sink.written c.loop-k.sink) (text_of l)) (all_bodies fs (batches fs) c.loop-k.k end) (c.loop-k.invariant.bytes told)
