-- The guest that a host is seen as.
use Rattle.std.specs.Prelude.{ℕ, ◌-◌}
use Rattle.mig_host_view.specs.Common.{Kind, Pv, Hvm, FrameOf, GuestOf, HostOf, HostFrame, pfn_in, each_value}
use Rattle.mig_host_view.specs.Normalised.{part_seen, normalised}

-- a frame without its machine frame
abbrev pub without_machine : HostFrame → FrameOf
without_machine f = record { type = f.type; page = f.page }

-- the greatest PFN that a PV host may have
abbrev pub top_of : Kind → ℕ → ℕ
top_of Pv width = width - 1
top_of Hvm width = 0

-- the guest that stands in the host, as it is there
abbrev pub guest_in : HostOf → GuestOf
guest_in h = record { kind = h.kind; top = top_of h.kind h.width; frames = each_value (λ pfn f. without_machine f) h.frames; parts = h.parts }

-- the guest that a host means: PFNs are in place of machine frames, in blank form
abbrev pub view : HostOf → GuestOf
view h = normalised (pfn_in h.frames) (guest_in h)

-- the view of an HVM host, in which nothing but the frames themselves has machine frames
abbrev pub hvm_view : HostOf → GuestOf
hvm_view h = record { kind = h.kind; top = 0; frames = each_value (λ pfn f. without_machine f) h.frames; parts = each_value part_seen h.parts }
