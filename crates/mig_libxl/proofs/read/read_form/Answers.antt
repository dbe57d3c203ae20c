use Rattle.mig_libxl.proofs.Common.{◌++◌, rules, sym, ◌∙◌, bare_at, wrapped_at, form_wrapped}
use Rattle.mig_libxl.proofs.Forms.{form_reads, form_stops, form_bare}
use Rattle.mig_libxl.proofs.read.read_form.Goals as goal

pub returns-in-Err-clause-read : goal.returns-in-Err-clause-read
returns-in-Err-clause-read g c = form_stops _ _ _ c.take_part.new.buf c.in-Err.stop c.at.result (search rules) c.at.ensures c.in-Err.ensures.read

pub returns-then-is_ident-clause-read : goal.returns-then-is_ident-clause-read
returns-then-is_ident-clause-read g c =
    form_reads _ _ _ _ c.take_part.new.buf wrapped_at tt c.read_wrapped.result c.in_default.ensures.read (form_wrapped c.take_part.new.buf (search rules) (sym c.is_ident.ensures ∙ c.if-is_ident.true)) c.read_wrapped.ensures.read

pub returns-else-is_ident-clause-read : goal.returns-else-is_ident-clause-read
returns-else-is_ident-clause-read g c =
    form_reads _ _ _ _ c.take_part.new.buf (λ rest. bare_at (c.take_part.new.buf ++ rest)) tt c.read_bare.result c.in_default.ensures.read (form_bare c.take_part.new.buf (search rules) (sym c.is_ident.ensures ∙ c.if-is_ident.false)) c.read_bare.ensures.read
