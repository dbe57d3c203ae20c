use Rattle.mig_restore.proofs.Common.{◌≡◌, None, length, rules, level_of, fault_of_level}
use Rattle.mig_restore.proofs.Entries.{page_fine, page_refused}
use Rattle.mig_restore.proofs.page.EntryPageFill.fill.Goals as goal

pub returns-in-Some : goal.returns-in-Some
returns-in-Some g c =
    let entry = c.args.self.now in let page = c.take_part.new.buf in
    let size : length page ≡ 4096 = search rules in
    record {
      read = page_refused (fault_of_level entry.top entry.place (level_of entry.kind)) page _ _ _ tt c.in-Some.cause size c.in_ok-take_part.ensures.read (search rules);
      faults = c.in_ok-take_part.ensures.faults;
      fine = tt;
      whole = tt;
      bytes = tt;
    }

pub returns-in-None : goal.returns-in-None
returns-in-None g c =
    let entry = c.args.self.now in let page = c.take_part.new.buf in
    let size : length page ≡ 4096 = search rules in
    let fine : fault_of_level entry.top entry.place (level_of entry.kind) page ≡ None = search rules in
    record {
      read = page_fine (fault_of_level entry.top entry.place (level_of entry.kind)) page _ _ _ tt tt size c.in_ok-take_part.ensures.read fine;
      faults = c.in_ok-take_part.ensures.faults;
      fine = fine;
      whole = size;
      bytes = c.are_bytes.ensures;
    }
