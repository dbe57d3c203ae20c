-- How far frames go in the profile that is read and written.
use Rattle.std.specs.Prelude.{ℕ, ◌^◌}

-- frame numbers (PFN) are below this: a frame word has 52 bits for one
abbrev pub pfn_limit : ℕ
pfn_limit = 2 ^ 52

-- the last frame number of a PV guest is below this: X86_PV_P2M_FRAMES has 32 bits for it
abbrev pub top_limit : ℕ
top_limit = 2 ^ 32

-- the most frames that a guest or a host may have
abbrev pub most_frames : ℕ
most_frames = 2 ^ 24

-- machine frames (MFN) are below this
abbrev pub machine_limit : ℕ
machine_limit = 2 ^ 40
