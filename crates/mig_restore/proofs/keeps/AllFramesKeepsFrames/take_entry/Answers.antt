use Rattle.mig_restore.proofs.Common.{◌<◌, pfn_limit, IsInside, None, sym, subst, ◌∙◌, rules, none-some, word_inside, grows_frame, put_entry, entry_set, carries}
use Rattle.mig_restore.proofs.Begun.{one_set}
use Rattle.mig_restore.proofs.Entries.{no_page}
use Rattle.mig_restore.proofs.Filled.{filled_read, filled_set, filled_grown, stops_so}
use Rattle.mig_restore.proofs.Noted.{weaker}
use Rattle.mig_restore.proofs.keeps.AllFramesKeepsFrames.take_entry.Goals as goal

pub returns-in-Ok-clause-read : goal.returns-in-Ok-clause-read
returns-in-Ok-clause-read g c =
    no_page _ c.args.guest.now.kind c.args.guest.now.top c.args.place _ c.args.word tt (carries c.args.word ∙ search rules)
    (entry_set c.args.guest.now _ c.args.word _ _ _ c.pfn_in.ensures (search rules) c.in-Ok.ensures.ok)

pub returns-in-Ok-clause-grown : goal.returns-in-Ok-clause-grown
returns-in-Ok-clause-grown g c =
    let inside = word_inside c.args.guest.now.kind c.args.guest.now.top c.args.word c.requires.1 in
    grows_frame c.args.guest.now _ c.type_in-in_stream.result c.type_in_guest-kind.result c.pfn_in.result None (search rules) (record {
      small = subst (λ n. n < pfn_limit) (sym c.pfn_in.ensures) inside.0;
      inside = subst (IsInside c.args.guest.now.kind c.args.guest.now.top) (sym c.pfn_in.ensures) inside.1;
      in_step = search rules;
      whole = λ bytes e. absurd (none-some bytes e);
      all = λ bytes e. absurd (none-some bytes e);
      entries = λ level page lev has. absurd (none-some page has);
    }) c.in-Ok.ensures.ok

pub returns-in-Ok-clause-set : goal.returns-in-Ok-clause-set
returns-in-Ok-clause-set g c = one_set put_entry c.args.guest.now _ c.args.word None (entry_set c.args.guest.now _ c.args.word _ _ _ c.pfn_in.ensures (search rules) c.in-Ok.ensures.ok)

pub returns-clause-read : goal.returns-clause-read
returns-clause-read g c =
    filled_read c.args.guest.now _ c.args.place c.args.word c.pfn_in-2.result c.type_in-in_stream.result c.type_in_guest-kind.result (search rules) (search rules) c.pfn_in-2.ensures _ _ _ _ _ (carries c.args.word ∙ search rules)
    (rw c.top.ensures at c.set_filled.ensures.ok)
    (stops_so g.S.Source.left g.S.Source.faults _ _ _ c.set_filled.result (rw c.top.ensures at c.set_filled.ensures.stopped))

pub returns-clause-grown : goal.returns-clause-grown
returns-clause-grown g c =
    filled_grown c.args.guest.now _ c.args.place c.args.word c.pfn_in-2.result c.type_in-in_stream.result c.type_in_guest-kind.result (search rules) (search rules) c.pfn_in-2.ensures _ _ _ _ c.set_filled.result c.requires (search rules)
    (rw c.top.ensures at c.set_filled.ensures.ok)

pub returns-clause-set : goal.returns-clause-set
returns-clause-set g c =
    filled_set c.args.guest.now _ c.args.place c.args.word c.pfn_in-2.result c.type_in-in_stream.result c.type_in_guest-kind.result (search rules) (search rules) c.pfn_in-2.ensures _ _ _ _ c.set_filled.result
    (rw c.top.ensures at c.set_filled.ensures.ok)

pub returns-in-Ok-clause-noted : goal.returns-in-Ok-clause-noted
returns-in-Ok-clause-noted g c = weaker _ _ (λ _ _ _ all frames noted. tt) _ _ _ _ (returns-in-Ok-clause-read g c)

pub returns-clause-noted : goal.returns-clause-noted
returns-clause-noted g c = weaker _ _ (λ _ _ _ all frames noted. tt) _ _ _ _ (returns-clause-read g c)
