-- The saver's invariant.
use Rattle.std.specs.Prelude.{◌≡◌, ℕ, List, false, get_or, ◌==◌, Option, None, if◌then◌else◌}
use Rattle.std.specs.FinMap as maps
use Rattle.mig_dirtysave_rounds.specs.Common.{PageType, HostFrames, FrameTold, Pfns, pfns_of_words, footprint}
use Rattle.mig_dirtysave_rounds.specs.Forms.{type_of_print}
use Rattle.mig_dirtysave_rounds.specs.Findings.{Finding, judged, frame_sent, is_deferred, type_found}
use Rattle.mig_dirtysave_rounds.specs.Entries.{frames_meant}

-- what is kept in mind of each PFN: whether its table is deferred, and the type that was seen last
pub record Notes : Type 0 where
  pub deferred : Pfns
  pub types : ℕ → Option PageType

-- as the saver keeps them: a bit and a type for each PFN
abbrev pub notes_of : List ℕ → List (Option PageType) → Notes
notes_of deferred types = record { deferred = pfns_of_words deferred; types = λ p. get_or types p None }

-- nothing is deferred, and no type was seen
abbrev pub no_notes : Notes
no_notes = record { deferred = λ p. false; types = λ p. None }

-- with what was found at p
abbrev pub noted : ℕ → Finding → Notes → Notes
noted p found notes = record {
  deferred = λ q. if q == p then is_deferred found else notes.deferred q;
  types = λ q. if q == p then type_found found else notes.types q;
}

-- Of each PFN that is neither unread in this round nor in the log: the last entry is what its footprint says now. The PFN is
-- deferred exactly where no stream can have its frame as it is now. The type that was seen last is its frame's type
-- now.
pub record Current (unread log : Pfns) (frames : HostFrames) (sent : List FrameTold) (notes : Notes) : Type 0 where
  pub same : (q : ℕ) → unread q ≡ false → log q ≡ false → maps.get (frames_meant sent) q ≡ frame_sent (judged (footprint frames q))
  pub kept : (q : ℕ) → unread q ≡ false → log q ≡ false → notes.deferred q ≡ is_deferred (judged (footprint frames q))
  pub types : (q : ℕ) → unread q ≡ false → log q ≡ false → notes.types q ≡ type_of_print (footprint frames q)
