-- Laws: what is left out of the judging of a stream, and what no front of a stream is.
use Rattle.std.specs.Prelude.{◌≡◌, ℕ, false, List, [], ◌++◌}
use Rattle.mig_relay.specs.Common.{Passes, Cause, Place, StreamOf, stream_at, IsStreamRefused, image_at, ◌>>=◌}
use Rattle.mig_relay.specs.Causes.{is_unasked}
use Rattle.mig_relay.specs.Images.{open_image_at, guest_asked}
use Rattle.mig_relay.specs.Streams.{open_stream_at, IsPassable, IsOpenRefused}

-- An image is judged so, and then its guest is asked: nothing else is left out.
abbrev pub NothingElseIsLeftOut : Type 0
NothingElseIsLeftOut = (input : List ℕ) → image_at input ≡ (open_image_at input >>= guest_asked)

-- an accepted front is passable, and says the same
abbrev pub AcceptedPasses : Type 0
AcceptedPasses = (input : List ℕ) (s : StreamOf) (rest : List ℕ) → stream_at input ≡ Passes s rest → open_stream_at input ≡ Passes s rest

-- what is refused for a cause that isn't left out is refused so
abbrev pub RefusedIsOpenRefused : Type 0
RefusedIsOpenRefused = (input : List ℕ) (place : Place) (cause : Cause) (rest : List ℕ) → IsStreamRefused input place cause rest → is_unasked cause ≡ false → IsOpenRefused input place cause rest

-- a cause that is left out is never told
abbrev pub LeftOutIsNotTold : Type 0
LeftOutIsNotTold = (input : List ℕ) (place : Place) (cause : Cause) (rest : List ℕ) → IsOpenRefused input place cause rest → is_unasked cause ≡ false

-- what passable bytes say doesn't change with what follows them
abbrev pub FrontsPass : Type 0
FrontsPass = (front more : List ℕ) (s : StreamOf) → IsPassable front s → open_stream_at (front ++ more) ≡ Passes s more

-- no proper prefix of passable bytes is passable
abbrev pub NoPrefixPasses : Type 0
NoPrefixPasses = (front more : List ℕ) (s other : StreamOf) → IsPassable (front ++ more) s → IsPassable front other → more ≡ []

-- no front of bytes that are refused, or that end inside a part, is accepted
abbrev pub UnfinishedIsNotAccepted : Type 0
UnfinishedIsNotAccepted = (front more : List ℕ) (s : StreamOf) (place : Place) (cause : Cause) (rest : List ℕ) → IsOpenRefused (front ++ more) place cause rest → stream_at front ≡ Passes s [] → ⊥
