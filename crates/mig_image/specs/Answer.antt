-- What a reader of guest images answers.
use Rattle.std.specs.Prelude.{◌≡◌, ℕ, List, Option, Some, None, Result, Ok, Err, ⊤}
use Rattle.mig_image.specs.Common.{or_stop, AgreesWithJudging, ImageCause, ImagePlace, HostOf, HostAndSpare}
use Rattle.mig_bytes.specs.declared.answer.Answer.{Answer}
use Rattle.mig_image.specs.GuestImage.{IsGuestImageUpTo}
use Rattle.mig_image.specs.GuestImageForm.{host_at}

abbrev pub IsHost : HostAndSpare → HostOf → Type 0
IsHost read host = read.host ≡ host

-- what a reader of guest images of hosts up to this width answered, and what it left in the source, is what judging gives
abbrev pub ReadsHost : ℕ → Option (List ℕ) → Option (List ℕ) → Result HostAndSpare (Answer ImagePlace ImageCause) → Type 0
ReadsHost widest old new result = AgreesWithJudging IsHost old new (host_at widest) (or_stop result)

-- where the source tells its bytes, an accepted input begins with the image of the host, a valid one, and the rest is left
abbrev pub BeginsWithGuestImage : ℕ → Option (List ℕ) → Option (List ℕ) → Result HostAndSpare (Answer ImagePlace ImageCause) → Type 0
BeginsWithGuestImage widest None new result = ⊤
BeginsWithGuestImage widest (Some input) new (Ok host) = (rest : List ℕ) × IsGuestImageUpTo widest input host.host rest × (new ≡ Some rest)
BeginsWithGuestImage widest (Some input) new (Err answer) = ⊤
