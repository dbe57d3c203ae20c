-- Where the frames that were read end.
use Rattle.std.specs.Prelude.{◌≡◌, ℕ, nat_lt}
use Rattle.mig_image.specs.Common.{HostOf}
use Rattle.mig_image.specs.GuestImageParts.{has_frame_from}

-- every frame number is below next, and next is 0 or one more than a frame number
abbrev pub EndsAt : HostOf → ℕ → Type 0
EndsAt h next = (pfn : ℕ) → has_frame_from h pfn ≡ nat_lt pfn next
