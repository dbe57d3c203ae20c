-- Names that many proofs of this crate use.
pub use Rattle.std.proofs.Common.{Bool, IfNone, IfSome, IsSome, List, None, Option, Some, [], ap, arith, cond, false, inl, inr, is_some, le-leb, length, option_and_then, refl, subst, suc, sym, true, zero, ℕ, ◌%◌, ◌*◌, ◌+◌, ◌-◌, ◌/◌, ◌<◌, ◌^◌, ◌∙◌, ◌∷◌, ◌≡◌, ◌≤◌}
pub use Rattle.std.proofs.lemmas.Bool.{cases_eq, cases_lt, cases_order, eqb-true}
pub use Rattle.std.specs.Cmp.{nat_cmp_total}
pub use Rattle.std.specs.FinMap.{nat_cmp-IsAntisymmetric}
pub use Rattle.std.specs.Option.{option_map}
pub use Rattle.std.specs.Prelude.{find, ◌&&◌, ◌==◌, ◌⊎◌}
pub use Rattle.mig_guest.specs.Formed.{IsPart, width_of}
pub use Rattle.mig_guest.specs.Frames.{FrameMap, FrameOf, is_type_of}
pub use Rattle.mig_guest.specs.Guests.{GuestOf}
pub use Rattle.mig_guest.specs.Hosts.{HostFrame, HostFrames, HostOf, IsValid, pfn_in}
pub use Rattle.mig_guest.specs.Longs.{long_at}
pub use Rattle.mig_guest.specs.PartKeys.{vcpu_key}
pub use Rattle.mig_guest.specs.Tables.{EachEntry, IsWithin, entry, is_blank_slot}
pub use Rattle.mig_guest.specs.declared.table.Entry.{Entry}
pub use Rattle.mig_guest.specs.declared.table.Entry.TheVariants.{Frame, NotPresent, Superpage}
pub use Rattle.mig_headers.specs.declared.kind.Kind.{Kind}
pub use Rattle.mig_headers.specs.declared.kind.Kind.TheVariants.{Hvm, Pv}
pub use Rattle.mig_host.proofs.HostedGuests.{IsBaseInside, base_inside, some_value, whole_valid}
pub use Rattle.mig_host_laws.specs.Fields.{Root, said_by}
pub use Rattle.mig_host_laws.specs.Standing.{Standing, in_host, in_stream, itself_in, said_in, said_of, says_in}
pub use Rattle.mig_host_view.specs.Sound.{IsSound, machine_type}
pub use Rattle.mig_host_view.specs.View.{guest_in, without_machine}
pub use Rattle.mig_pagetypes.specs.PageTypes.{level_of}
pub use Rattle.mig_pagetypes.specs.declared.page_type.PageType.{PageType}
pub use Rattle.mig_pvtables.proofs.EachValue.{get_each}
pub use Rattle.mig_pvtables.proofs.PvGuests.{pv_complete}
pub use Rattle.mig_pvtables.specs.Faults.{is_root, type_at}
pub use Rattle.mig_pvtables.specs.Whole.{IsWhole}
pub use Rattle.mig_walk.specs.WalkSteps.{CanBeWalked, IsReached}
pub use Rattle.mig_walk.specs.Walks.{IsCanonical, IsTableOf, IsWalked, IsWalkedOnce, NamesNothing, Reach, at_machine, slot_of}
pub use Rattle.mig_walk.specs.Walks.IsWalked.{absent, frame, no_vcpu, not_canonical, not_table}
pub use Rattle.mig_walk.specs.Walks.Reach.{by_entry, by_root}
pub use Rattle.mig_walk.specs.declared.walk.Walked.{Walked}
pub use Rattle.mig_walk.specs.declared.walk.Walked.TheVariants.{Absent, NoVcpu, NotCanonical, NotTable}
pub use Rattle.mig_pvtables.specs.Blank.{blank, blank_of, each_value}
