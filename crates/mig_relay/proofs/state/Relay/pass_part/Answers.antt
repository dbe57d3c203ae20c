use Rattle.mig_relay.proofs.Steps.{moved_from}
use Rattle.mig_relay.specs.declared.state.Coming.TheVariants as comes
use Rattle.mig_relay.proofs.state.Relay.pass_part.Goals as goal

pub returns-in-Start-clause-moved : goal.returns-in-Start-clause-moved
returns-in-Start-clause-moved g c = moved_from c.args.self.now c.pass_start.new.self _ _ _ _ c.pass_start.result comes.Start c.in-Start.is c.pass_start.ensures.moved

pub returns-in-LibxlHeader-clause-moved : goal.returns-in-LibxlHeader-clause-moved
returns-in-LibxlHeader-clause-moved g c = moved_from c.args.self.now c.pass_libxl_header.new.self _ _ _ _ c.pass_libxl_header.result comes.LibxlHeader c.in-LibxlHeader.is c.pass_libxl_header.ensures.moved

pub returns-in-LibxlHead-clause-moved : goal.returns-in-LibxlHead-clause-moved
returns-in-LibxlHead-clause-moved g c = moved_from c.args.self.now c.pass_libxl_head.new.self _ _ _ _ c.pass_libxl_head.result comes.LibxlHead c.in-LibxlHead.is c.pass_libxl_head.ensures.moved

pub returns-in-LibxlBody-clause-moved : goal.returns-in-LibxlBody-clause-moved
returns-in-LibxlBody-clause-moved g c = moved_from c.args.self.now c.pass_libxl_body.new.self _ _ _ _ c.pass_libxl_body.result (comes.LibxlBody c.in-LibxlBody.head) c.in-LibxlBody.is c.pass_libxl_body.ensures.moved

pub returns-in-LibxlPadding-clause-moved : goal.returns-in-LibxlPadding-clause-moved
returns-in-LibxlPadding-clause-moved g c = moved_from c.args.self.now c.pass_libxl_padding.new.self _ _ _ _ c.pass_libxl_padding.result (comes.LibxlPadding c.in-LibxlPadding.head) c.in-LibxlPadding.is c.pass_libxl_padding.ensures.moved

pub returns-in-Marker-clause-moved : goal.returns-in-Marker-clause-moved
returns-in-Marker-clause-moved g c = moved_from c.args.self.now c.pass_marker.new.self _ _ _ _ c.pass_marker.result comes.Marker c.in-Marker.is c.pass_marker.ensures.moved

pub returns-in-Version-clause-moved : goal.returns-in-Version-clause-moved
returns-in-Version-clause-moved g c = moved_from c.args.self.now c.pass_version.new.self _ _ _ _ c.pass_version.result comes.Version c.in-Version.is c.pass_version.ensures.moved

pub returns-in-Kind-clause-moved : goal.returns-in-Kind-clause-moved
returns-in-Kind-clause-moved g c = moved_from c.args.self.now c.pass_kind.new.self _ _ _ _ c.pass_kind.result (comes.Kind c.in-Kind.version) c.in-Kind.is c.pass_kind.ensures.moved

pub returns-in-Head-clause-moved : goal.returns-in-Head-clause-moved
returns-in-Head-clause-moved g c = moved_from c.args.self.now c.pass_head.new.self _ _ _ _ c.pass_head.result comes.Head c.in-Head.is c.pass_head.ensures.moved

pub returns-in-Body-clause-moved : goal.returns-in-Body-clause-moved
returns-in-Body-clause-moved g c = moved_from c.args.self.now c.pass_body.new.self _ _ _ _ c.pass_body.result (comes.Body c.in-Body.head) c.in-Body.is c.pass_body.ensures.moved

pub returns-in-Front-clause-moved : goal.returns-in-Front-clause-moved
returns-in-Front-clause-moved g c = moved_from c.args.self.now c.pass_front.new.self _ _ _ _ c.pass_front.result (comes.Front c.in-Front.head) c.in-Front.is c.pass_front.ensures.moved

pub returns-in-Words-clause-moved : goal.returns-in-Words-clause-moved
returns-in-Words-clause-moved g c = moved_from c.args.self.now c.pass_words.new.self _ _ _ _ c.pass_words.result (comes.Words c.in-Words.head c.in-Words.count) c.in-Words.is c.pass_words.ensures.moved

pub returns-in-Page-clause-moved : goal.returns-in-Page-clause-moved
returns-in-Page-clause-moved g c = moved_from c.args.self.now c.pass_page.new.self _ _ _ _ c.pass_page.result (comes.Page c.in-Page.head) c.in-Page.is c.pass_page.ensures.moved

pub returns-in-Padding-clause-moved : goal.returns-in-Padding-clause-moved
returns-in-Padding-clause-moved g c = moved_from c.args.self.now c.pass_padding.new.self _ _ _ _ c.pass_padding.result (comes.Padding c.in-Padding.head) c.in-Padding.is c.pass_padding.ensures.moved
