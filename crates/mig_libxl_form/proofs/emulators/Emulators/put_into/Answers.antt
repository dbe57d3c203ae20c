use Rattle.mig_libxl_form.proofs.Common.{on_err_weaker}
use Rattle.mig_libxl_form.proofs.Begun.{after_error, contexts_begun, stores_begun}
use Rattle.mig_libxl_form.proofs.emulators.Emulators.put_into.Goals as goal

pub returns-in_err-put_stores-clause-err : goal.returns-in_err-put_stores-clause-err
returns-in_err-put_stores-clause-err c = after_error c.from_residual.result (stores_begun c.args.guest.now c.put_stores.new.guest c.args.self.now c.in_err-put_stores.ensures.err)

pub returns-clause-err : goal.returns-clause-err
returns-clause-err c = on_err_weaker c.put_contexts.result (contexts_begun c.args.guest.now c.put_stores.new.guest c.put_contexts.new.guest c.args.self.now c.in_ok-put_stores.ensures.ok) c.put_contexts.ensures.err
