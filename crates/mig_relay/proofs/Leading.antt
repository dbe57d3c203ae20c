-- The PAGE_DATA in hand has as many words behind a piece as before it.
use Rattle.mig_relay.proofs.Common.{◌≡◌, ◌≢◌, ℕ, ◌+◌, ◌≤◌, List, length, Option, Some, None, refl, sym, ap, ◌∙◌, arith, drop, length-drop, ⊤, LibxlRecord, padding_len, places_len, with_places, Opening, StreamRecord, FrameEntry, in_hand, Keeps, KeepsNext, KeepsWordsInHand, IsPages, Next, AtMarker, AtVersion, AtKind, AtHead, AtBody, AtFront, AtWords, AtPages, AtPadding, Outer, Spot, AtStart, AtLibxlHeader, AtLibxlHead, AtLibxlBody, AtLibxlPadding, InImage, AtEnd, PassedPiece, IsStep, ComesBehind, ComesNext, RecordHead, Step, Relay, libxl_next, libxl_context, libxl_end, image_next, image_end, inner_end, wrapper_header, version, kind, libxl_begins, libxl_whole, image_begins, pages_begin, image_whole, count, more, whole, true≢false}
use Rattle.mig_relay.specs.Following.{CountDue, KeepsNumber, due, head_spot, image_opens, wrapper_opens, marker}
use Rattle.mig_relay.specs.Spots.{number_of_words}
use Rattle.mig_relay.proofs.Paging.{words_number}
use Rattle.mig_relay.specs.declared.answer.Step.TheVariants as steps

-- ---- what is so where pages come next

-- the record in hand was in hand before, and the count of its words was taken
abbrev IntoPages : Spot → Spot → Type 0
IntoPages here (InImage outer (AtPages o records head coming stood)) = (in_hand here ≡ Some head) × (head_spot here ≡ InImage outer (AtHead o records)) × (due here ≢ CountDue)
IntoPages here _ = ⊤

-- behind a whole record none come
behind_record : {at next : Spot} {type : ℕ} (here : Spot) → ComesBehind at type next → IntoPages here next
behind_record here (libxl_next records r type going other none) = tt
behind_record here (libxl_context records type is none) = tt
behind_record here (libxl_end records type s is) = tt
behind_record here (image_next outer o records r type going) = tt
behind_record here (image_end o records type s is) = tt
behind_record here (inner_end around o records type image is) = tt

in_record : (here next : Spot) (head : RecordHead) → in_hand here ≡ Some head → in_hand next ≡ Some head → head_spot next ≡ head_spot here → due here ≢ CountDue → IntoPages here next
in_record here (InImage outer (AtPages o records own coming stood)) head hand hand_next same counted = (hand ∙ sym hand_next, sym same, counted)
in_record here _ head hand hand_next same counted = tt

into_pages : {begun piece front : List ℕ} {here next : Spot} → ComesNext here begun piece next front → IntoPages here next
into_pages (image_opens piece size is) = tt
into_pages (wrapper_opens piece size is) = tt
into_pages (wrapper_header piece size) = tt
into_pages (marker outer piece size) = tt
into_pages (version outer n piece size) = tt
into_pages (kind outer n o piece size) = tt
into_pages (libxl_begins records piece size) = tt
into_pages {here} (libxl_whole records piece next size empty behind) = behind_record here behind
into_pages (image_begins outer o records piece size other) = tt
into_pages (pages_begin outer o records piece size one) = tt
into_pages {here} (image_whole outer o records piece next size empty other behind) = behind_record here behind
into_pages (count outer o records head piece size fit) = tt
into_pages (more here next begun piece front head hand hand_next same counted nothing full size) = in_record here next head hand hand_next same counted
into_pages (whole here next begun piece head hand counted full size behind) = behind_record here behind

-- ---- how many words there are

-- the words from this one on
pub all_come : (ws : List ℕ) (page : ℕ) (coming : List (ℕ × ℕ)) → coming ≡ with_places page (drop page ws) → page ≤ length ws → page + length coming ≡ length ws
all_come ws page coming is within = omega (arith, within, ap length is, places_len page (drop page ws), length-drop page ws)

-- where pages come next, the relay has just their words in hand
number_held : (r : Relay) (o : Opening) (records : List StreamRecord) (head : RecordHead) (coming : List (ℕ × ℕ)) (stood : List FrameEntry) (begun : List ℕ) → KeepsNext r (AtPages o records head coming stood) begun → length stood + length coming ≡ length r.words.items
number_held r o records head coming stood begun (is, kept, pages, padding, words, none) = omega (arith, words.behind, all_come r.words.items r.page coming words.left (omega (arith, words.some)))

no_head : (head : RecordHead) → ◌≡◌ {A = Option RecordHead} None (Some head) → ⊥
no_head head e = cc

same_head : (own head : RecordHead) → ◌≡◌ {A = Option RecordHead} (Some own) (Some head) → own ≡ head
same_head own head e = cc

not_libxl : (outer : Outer) (next : Next) (records : List LibxlRecord) → AtLibxlHead records ≡ InImage outer next → ⊥
not_libxl outer next records e = cc

by_words : (t : Relay) (piece : List ℕ) (around : Outer) (p : Opening) (behind : List StreamRecord) (own : RecordHead) (n : ℕ) (step : Step) → IsStep (InImage around (AtWords p behind own n)) piece t step → length t.words.items ≡ n
by_words t piece around p behind own n steps.Words e = ap length e.0 ∙ words_number n piece
by_words t piece around p behind own n steps.Piece e = absurd (true≢false (sym e.0))
by_words t piece around p behind own n _ e = absurd e

by_page : (r t : Relay) (piece : List ℕ) (around : Outer) (p : Opening) (behind : List StreamRecord) (own : RecordHead) (left : List (ℕ × ℕ)) (have : List FrameEntry) (step : Step) → IsStep (InImage around (AtPages p behind own left have)) piece t step → KeepsWordsInHand r t step → length t.words.items ≡ length r.words.items
by_page r t piece around p behind own left have steps.Piece e same = ap length (same refl)
by_page r t piece around p behind own left have _ e same = absurd e

module _ (outer : Outer) (o : Opening) (records : List StreamRecord) (head : RecordHead) (coming : List (ℕ × ℕ)) (stood : List FrameEntry) (pages : IsPages head) (padding : padding_len head.len ≡ 0) where
  abbrev next : Spot
  next = InImage outer (AtPages o records head coming stood)

  -- as many words as before
  number_same : (r t : Relay) (begun piece : List ℕ) (step : Step) (here : Spot) → IsStep here piece t step → KeepsWordsInHand r t step → Keeps r here begun → IntoPages here next → length t.words.items ≡ number_of_words here
  number_same r t begun piece step AtStart e same k i = absurd (no_head head i.0)
  number_same r t begun piece step AtLibxlHeader e same k i = absurd (no_head head i.0)
  number_same r t begun piece step (AtLibxlHead before) e same k i = absurd (no_head head i.0)
  number_same r t begun piece step (AtLibxlBody before own) e same k i = absurd (not_libxl outer (AtHead o records) before i.1)
  number_same r t begun piece step (AtLibxlPadding before own content) e same k i = absurd (not_libxl outer (AtHead o records) before i.1)
  number_same r t begun piece step (InImage around AtMarker) e same k i = absurd (no_head head i.0)
  number_same r t begun piece step (InImage around AtVersion) e same k i = absurd (no_head head i.0)
  number_same r t begun piece step (InImage around (AtKind n)) e same k i = absurd (no_head head i.0)
  number_same r t begun piece step (InImage around (AtHead p behind)) e same k i = absurd (no_head head i.0)
  number_same r t begun piece step (InImage around (AtBody p behind own)) e same (wrapped, k) i = absurd (k.2.other (ap (λ (h : RecordHead). h.kind) (same_head own head i.0) ∙ pages.kind))
  number_same r t begun piece step (InImage around (AtFront p behind own)) e same k i = absurd (i.2 refl)
  number_same r t begun piece step (InImage around (AtWords p behind own n)) e same k i = by_words t piece around p behind own n step e
  number_same r t begun piece step (InImage around (AtPages p behind own left have)) e same (wrapped, k) i = by_page r t piece around p behind own left have step e same ∙ sym (number_held r p behind own left have begun k)
  number_same r t begun piece step (InImage around (AtPadding p behind own content)) e same (wrapped, k) i = absurd (omega (arith, k.2, ap (λ (h : RecordHead). padding_len h.len) (same_head own head i.0), padding))
  number_same r t begun piece step (AtEnd s) e same k i = absurd (no_head head i.0)

-- behind a piece the words in hand are as many as before
pub keeps_number : {here : Spot} {begun : List ℕ} {step : Step} {r t : Relay} {old new before now : Option (List ℕ)} (g : PassedPiece here begun step r t old new before now) → Keeps r here begun → KeepsNumber here g.next
keeps_number {here} {begun} {step} {r} {t} g k = by g.next g.front g.keeps (into_pages g.follows)
  where
    by : (next : Spot) (front : List ℕ) → Keeps t next front → IntoPages here next → KeepsNumber here next
    by (InImage outer (AtPages o records head coming stood)) front (around, kept) i =
        number_held t o records head coming stood front kept
        ∙ number_same outer o records head coming stood kept.2 kept.3 r t begun g.piece step here g.is g.words k i
    by _ front kept i = tt
