-- Fronts as a guest image spells them.
use Rattle.std.specs.Prelude.{◌≡◌, ℕ, List, ◌++◌, length}
use Rattle.std.specs.FinMap as maps
use Rattle.mig_refusals.specs.Common.{flat_map, le64, SpelledAs, HostOf, IsValid, GuestImageVersion, frame_text, host_head, part_text, head_version, host_head_form}

-- a faultless head, which may tell more frames, and all n frames of a valid host without parts, in its version
pub record EndsInFrames (widest : ℕ) (front head : List ℕ) (n : ℕ) (h : HostOf) : Type 0 where
  pub faultless : SpelledAs (host_head_form widest) head head
  pub spelled : front ≡ head ++ flat_map (frame_text (head_version head)) (maps.entries h.frames)
  pub size : length (maps.entries h.frames) ≡ n
  pub no_parts : h.parts ≡ maps.empty
  pub valid : IsValid h

-- the image of a valid host with n parts, but with another number, count, as that of the parts
pub record EndsInParts (front : List ℕ) (count n : ℕ) (h : HostOf) : Type 0 where
  pub version : GuestImageVersion
  pub number : List ℕ
  pub number_size : length number ≡ 8
  pub number_is : count ≡ le64 number 0
  pub spelled : front ≡ host_head version h ++ (flat_map (frame_text version) (maps.entries h.frames) ++ (number ++ flat_map part_text (maps.entries h.parts)))
  pub size : length (maps.entries h.parts) ≡ n
  pub valid : IsValid h
