use Rattle.mig_dirtysave.proofs.Common.{arith, ◌≡◌, Some, refl, sym, ap, subst, ◌∙◌, IfSome, is_some, option_and_then, HostOf, pfn_in, fits_field, types_seen, OnlyLooksUp, misses_start, misses_end, field_fits, field_misses, fields_start, fields_end, field_put, field_unused, same_says}
use Rattle.mig_dirtysave.proofs.Looks.{looks_none, looks_on}
use Rattle.mig_dirtysave.proofs.contexts.rename_context.Goals.{in-Some+in_ok-pfn+in-Some-2, in_default}
use Rattle.mig_pvtables.proofs.Walks as walks
use Rattle.mig_dirtysave.proofs.contexts.rename_context.Goals as goal

pub loop-field-init : goal.loop-field-init
loop-field-init g c = record {
  renamed = fields_start c.fits-context c.told-context;
  none = misses_start;
  looks = looks_none _;
  later = g.met.M.Machine.later_self _;
  quiet = refl;
}

pub returns-in-None-clause-found : goal.returns-in-None-clause-found
returns-in-None-clause-found g c =
    field_misses c.loop-field.invariant.none (c.in-Some.ensures ∙ same_says c.loop-field.invariant.renamed c.loop-field-test.true) refl
    (c.in_ok-pfn.ensures.fits ∙ ap (λ (h : HostOf). fits_field c.loop-field.field (option_and_then (types_seen c.args.types.now) (pfn_in h.frames c.in-Some.mfn))) c.loop-field.invariant.looks.host)
    c.loop-field-test.true (ap is_some c.in-None.is)

pub loop-field-preserved : goal.loop-field-preserved
loop-field-preserved g c = elim c.match-host_frame.branch [
  | in-Some+in_ok-pfn+in-Some-2 w ↦ record {
    renamed = field_put c.loop-field.invariant.renamed c.loop-field-test.true w.in-Some.ensures
        (subst (λ (h : HostOf). pfn_in h.frames w.in-Some.mfn ≡ Some w.in-Some-2.pfn) c.loop-field.invariant.looks.host
        (subst (λ o. IfSome o (λ p. pfn_in (g.M.Machine.state c.loop-field.machine).host.frames w.in-Some.mfn ≡ Some p)) w.in-Some-2.is w.in_ok-pfn.ensures.found))
        (w.context-is ∙ w.put_vcpu_frame.ensures);
    none = field_fits c.loop-field.invariant.none (w.in-Some.ensures ∙ same_says c.loop-field.invariant.renamed c.loop-field-test.true) refl
        (w.in_ok-pfn.ensures.fits ∙ ap (λ (h : HostOf). fits_field c.loop-field.field (option_and_then (types_seen c.args.types.now) (pfn_in h.frames w.in-Some.mfn))) c.loop-field.invariant.looks.host)
        (ap is_some w.in-Some-2.is);
    looks = subst (λ (m : g.row.M.Denot). OnlyLooksUp (g.M.Machine.state c.args.machine.now) (g.M.Machine.state m)) (sym w.machine-is) (looks_on c.loop-field.invariant.looks w.pfn_for_field.ensures.looks);
    later = subst (λ (m : g.row.M.Denot). g.M.Machine.Later c.args.machine.now m) (sym w.machine-is) (g.met.M.Machine.later_on _ _ _ c.loop-field.invariant.later w.pfn_for_field.ensures.later);
    quiet = ap g.M.Machine.faults w.machine-is ∙ w.in_ok-pfn.ensures.cause.quiet ∙ c.loop-field.invariant.quiet;
  }
  | in_default w ↦ record {
    renamed = field_unused c.loop-field.invariant.renamed c.loop-field-test.true w.in_default.ensures w.context-is;
    none = walks.field_unused c.loop-field.invariant.none (w.in_default.ensures ∙ same_says c.loop-field.invariant.renamed c.loop-field-test.true);
    looks = subst (λ (m : g.row.M.Denot). OnlyLooksUp (g.M.Machine.state c.args.machine.now) (g.M.Machine.state m)) (sym w.machine-is) c.loop-field.invariant.looks;
    later = subst (λ (m : g.row.M.Denot). g.M.Machine.Later c.args.machine.now m) (sym w.machine-is) c.loop-field.invariant.later;
    quiet = ap g.M.Machine.faults w.machine-is ∙ c.loop-field.invariant.quiet;
  }
]

pub returns-clause-found : goal.returns-clause-found
returns-clause-found g c = misses_end c.loop-field.invariant.none (omega (arith, c.loop-field-test.false))

pub returns-clause-renamed : goal.returns-clause-renamed
returns-clause-renamed g c none = fields_end c.loop-field.invariant.renamed (omega (arith, c.loop-field-test.false, c.loop-field.auto.field-end))
