use Rattle.mig_dirtysave.proofs.Common.{◌≡◌, ℕ, List, Option, Some, Bool, refl, ap, subst, ◌∙◌, IfSome, find, option_map, VcpuFrame, GuestOf, HostOf, pfn_in, Part, PartKey, PartMap, PageType, parts_after, length_longs, field_numbers, first_some, is_used_somewhere, in_fields, contexts_start, renamed_context, names_ill, standing_seen, code_start, code_next, code_long, code_fewer, code_end}
use Rattle.mig_pvtables.proofs.BlankParts.{OnlyPart}
use Rattle.mig_dirtysave.proofs.Looks.{looks_none, looks_on}
use Rattle.mig_dirtysave.proofs.ContextSteps.{behind_stays, next_found, next_fine, found_in_next}
use Rattle.std.specs.FinMap as maps
use Rattle.mig_dirtysave.proofs.contexts.rename_contexts.Goals as goal

-- what was found in a context is found by the host of the machine as it was at first, since look-ups change no host
found_at_first : (types : List (Option PageType)) (parts : PartMap) (key : PartKey) (field : Option ℕ) {first later : HostOf} → later ≡ first
    → IfSome (maps.get parts key) (λ context. field ≡ find (names_ill (standing_seen later types) key.key1 context) field_numbers) → IfSome (maps.get parts key) (λ context. field ≡ find (names_ill (standing_seen first types) key.key1 context) field_numbers)
found_at_first types parts key field same = subst (λ (h : HostOf). IfSome (maps.get parts key) (λ context. field ≡ find (names_ill (standing_seen h types) key.key1 context) field_numbers)) same

pub loop-key-init : goal.loop-key-init
loop-key-init g c = record {
  changed = code_start;
  so = contexts_start (in_fields (names_ill (standing_seen (g.M.Machine.state c.args.machine.now).host c.args.types.now))) c.args.guest.now.parts;
  looks = looks_none _;
  later = g.met.M.Machine.later_self _;
  quiet = refl;
}

pub rename_vcpu-requires-clause-long : goal.rename_vcpu-requires-clause-long
rename_vcpu-requires-clause-long g c = code_long c.loop-key.invariant.changed c.in-Some.ensures.next 5168 (λ _ x. length_longs 646 _) c.requires.contexts

pub returns-in-Some-2-clause-found : goal.returns-in-Some-2-clause-found
returns-in-Some-2-clause-found g c =
    let host : HostOf = (g.M.Machine.state c.args.machine.now).host in
    let bad : ℕ → List ℕ → ℕ → Bool = names_ill (standing_seen host c.args.types.now) in
    let e : Part = (c.in-Some.key, c.in-Some.field-0-1.now) in
    let found = found_at_first c.args.types.now c.loop-key.guest.parts e.0 c.in_ok-field.field-0 c.loop-key.invariant.looks.host c.in_ok-field.ensures.found in
    (λ i. Some (VcpuFrame (c.from.ensures i) (c.from-in-Some-2.ensures i)))
    ∙ ap (option_map (λ (at : ℕ × ℕ). VcpuFrame at.0 at.1))
    (next_found (in_fields bad) (c.in-Some.key.key1, c.in-Some-2.field) c.in-Some.ensures.next c.loop-key.invariant.so
    (found_in_next bad c.loop-key.guest.parts c.loop-key.after e c.in-Some.ensures.next c.in_ok-field.field-0 found ∙ ap (option_map (λ (field : ℕ). (e.0.key1, field))) c.in-Some-2.is))

pub loop-key-smaller : goal.loop-key-smaller
loop-key-smaller g c = code_fewer c.loop-key.invariant.changed c.in-Some.ensures.next

pub loop-key-preserved : goal.loop-key-preserved
loop-key-preserved g c =
    let host : HostOf = (g.M.Machine.state c.args.machine.now).host in
    let bad : ℕ → List ℕ → ℕ → Bool = names_ill (standing_seen host c.args.types.now) in
    let e : Part = (c.in-Some.key, c.in-Some.field-0-1.now) in
    let found = found_at_first c.args.types.now c.loop-key.guest.parts e.0 c.in_ok-field.field-0 c.loop-key.invariant.looks.host c.in_ok-field.ensures.found in
    let one : c.rename_vcpu.new.guest ≡ OnlyPart (renamed_context is_used_somewhere (pfn_in host.frames) e.0.key1) c.loop-key.guest e.0 =
    subst (λ (h : HostOf). c.rename_vcpu.new.guest ≡ OnlyPart (renamed_context is_used_somewhere (pfn_in h.frames) e.0.key1) c.loop-key.guest e.0)
    c.loop-key.invariant.looks.host (c.in_ok-field.ensures.renamed c.in_default-2.is) in
    record {
      changed = code_next c.loop-key.invariant.changed c.in-Some.ensures.next one;
      so = ap (λ (s : GuestOf). first_some (in_fields bad) (parts_after 4 (Some e.0) (maps.entries s.parts))) one
          ∙ ap (first_some (in_fields bad)) (behind_stays c.loop-key.guest.parts e.0 (renamed_context is_used_somewhere (pfn_in host.frames) e.0.key1))
          ∙ next_fine (in_fields bad) c.in-Some.ensures.next c.loop-key.invariant.so
          (found_in_next bad c.loop-key.guest.parts c.loop-key.after e c.in-Some.ensures.next c.in_ok-field.field-0 found ∙ ap (option_map (λ (field : ℕ). (e.0.key1, field))) c.in_default-2.is);
      looks = looks_on c.loop-key.invariant.looks c.rename_vcpu.ensures.looks;
      later = g.met.M.Machine.later_on _ _ _ c.loop-key.invariant.later c.rename_vcpu.ensures.later;
      quiet = c.in_ok-field.ensures.cause.quiet ∙ c.loop-key.invariant.quiet;
    }

pub returns-clause-renamed : goal.returns-clause-renamed
returns-clause-renamed g c none = code_end c.loop-key.invariant.changed c.in_default.ensures.next
