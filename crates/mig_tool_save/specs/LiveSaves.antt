-- A host that is saved live: what it is read from, when it isn't saved, and what is written of it.
use Rattle.std.specs.Prelude.{◌≡◌, ◌<◌, ◌≤◌, ◌+◌, ℕ, List, [], ◌∷◌, ◌++◌, length, map, drop, false, Option, Some, None}
use Rattle.std.specs.List.{AllByRecursion}
use Rattle.mig_tool_save.specs.Common.{Appends, Passes, ImageCause, ImagePlace, Unsound, HostOf, most_saved_width, unsoundness, view, wrapper_opening, wrapper_closing, AcceptedStream, LineOf, Paced, pfns_paced, SaveSummary}
use Rattle.mig_bytes.specs.Judged.{Judged}
use Rattle.mig_records.specs.Records.{Record, text_of}
use Rattle.mig_canon.specs.Canon.{headers}
use Rattle.mig_records_pages.specs.Told.{FrameTold, telling_record, all_told}
use Rattle.mig_image.specs.GuestImageForm.{host_at}
use Rattle.mig_dirtysave_rounds.specs.Entries.{pfns_sent}
use Rattle.mig_dirtysave_parts.specs.SaveTexts.{IsOtherRecord}
use Rattle.mig_machine_script.specs.Scripts.{IsScript, IsBadLine, most_script_bytes}
use Rattle.mig_machine_script.specs.Groups.{ran}
use Rattle.mig_machine_script.specs.HostLines.{after}
use Rattle.mig_machine.specs.MachineSeen.{MachineSeen, calls_of, is_paused, log_of, history_of}
use Rattle.mig_guest.specs.History.{no_history}
use Rattle.mig_guest.specs.Pfns.{no_pfns}

-- ---- what is read

-- the host whose image the input begins with
abbrev pub saved_host_at : List ℕ → Judged (ImagePlace × ImageCause) HostOf
saved_host_at input = host_at most_saved_width input

-- the input begins with the image of a host, and what follows is a script of these lines, which isn't too long
pub record HasHostAndScript (input : List ℕ) (host : HostOf) (lines : List LineOf) : Type 0 where
  pub text : List ℕ
  pub image : saved_host_at input ≡ Passes host text
  pub few : length text ≤ most_script_bytes
  pub script : IsScript text lines

-- the host at the pause, where so many calls let its guest run: the lines before the dot of this number ran, counting from 1
abbrev pub paused_host : HostOf → List LineOf → ℕ → HostOf
paused_host host lines calls = after host (ran lines calls)

-- ---- when a host isn't saved

-- A save of this host while a script of these lines runs, with its rounds and its pause. The host at the pause can't be
-- seen as a guest, and this is the first thing in the way.
pub record PausesUnsound (host : HostOf) (lines : List LineOf) (unsound : Unsound) : Type 0 where
  pub rounds : ℕ
  pub calls : ℕ
  pub again : ℕ
  pub paced : Paced host lines rounds calls again
  pub first : unsoundness (paused_host host lines calls) ≡ Some unsound

-- what follows the image has this first bad line
pub record HasBadLine (input : List ℕ) (line : ℕ) : Type 0 where
  pub host : HostOf
  pub text : List ℕ
  pub image : saved_host_at input ≡ Passes host text
  pub few : length text ≤ most_script_bytes
  pub bad : IsBadLine text line

-- what follows the image is too long for a script; of it, this is left
pub record HasLongScript (input rest : List ℕ) : Type 0 where
  pub host : HostOf
  pub text : List ℕ
  pub image : saved_host_at input ≡ Passes host text
  pub many : most_script_bytes < length text
  pub left : rest ≡ drop (most_script_bytes + 1) text

-- the input has a host and a script, and the host at the pause can't be seen as a guest: this is the first thing in the way
pub record HasUnsoundPause (input : List ℕ) (unsound : Unsound) : Type 0 where
  pub host : HostOf
  pub lines : List LineOf
  pub is : HasHostAndScript input host lines
  pub pause : PausesUnsound host lines unsound

-- ---- what is written

-- an image whose PAGE_DATA records have entries of these frame numbers, in this order, inside a libxl stream where the host
-- has parts of emulators
pub record TellsPfns (host : HostOf) (text pfns : List ℕ) : Type 0 where
  pub before : List Record
  pub batches : List (List FrameTold)
  pub behind : List Record
  pub image : List ℕ
  pub image_is : image ≡ headers host.kind ++ text_of (before ++ (map telling_record batches ++ (behind ++ (0, []) ∷ [])))
  pub is : text ≡ wrapper_opening host.parts ++ (image ++ wrapper_closing host.parts)
  pub others : AllByRecursion IsOtherRecord (before ++ behind)
  pub order : pfns_sent (all_told batches) ≡ pfns

-- What was written of a host while a script of these lines ran. It is a stream that is accepted, whatever follows it,
-- with exactly the guest that the host is seen as at the pause. The host and the script tell how many rounds there
-- were, at which call the pause came, and what the entries name in which order. These name every frame number below the
-- width first, then what the log behind each round names, and last what the lines touched up to the pause.
pub record WroteLive (host : HostOf) (lines : List LineOf) (old new : Option (List ℕ)) (summary : SaveSummary) : Type 0 where
  pub calls : ℕ
  pub again : ℕ
  pub paced : Paced host lines summary.rounds calls again
  pub sound : unsoundness (paused_host host lines calls) ≡ None
  pub text : List ℕ
  pub wrote : Appends old new text
  pub means : (rest : List ℕ) → AcceptedStream (text ++ rest) (view (paused_host host lines calls)) rest
  pub entries : TellsPfns (paused_host host lines calls) text (pfns_paced paced)
  pub counted : summary.entries ≡ again + host.width

-- the same of a machine that stands at this host now: it is the host at the pause
pub record WroteLiveTo (host : HostOf) (lines : List LineOf) (now : HostOf) (old new : Option (List ℕ)) (summary : SaveSummary) : Type 0 where
  pub wrote : WroteLive host lines old new summary
  pub at_pause : now ≡ paused_host host lines wrote.calls

-- nothing was asked of a machine yet
pub record IsUnasked (m : MachineSeen) : Type 0 where
  pub calls : calls_of m ≡ 0
  pub unpaused : is_paused m ≡ false
  pub log : log_of m ≡ no_pfns
  pub history : history_of m ≡ no_history
