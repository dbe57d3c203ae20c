-- What the body of a batch, or of a toolstack, makes of what a reader keeps: it leaves the emulators, or the guest, as they were.
use Rattle.mig_legacy.proofs.Common.{◌≡◌, ℕ, List, Option, Some, None, Result, Ok, Err, refl, sym, subst, ◌∙◌, Judged, Passes, AgreesWithJudging, Stop, LegacyCause, ChunkKind, Batch, Toolstack, ChunksSeen, EmulatorsOf, GuestOf, emulators_of, judged_as, toolstack_causes, pairs_of_toolstack, batch_form, toolstack_form, content_form, LegacyContent, LegacyChunk, Pairs, store_records, EntryStep, put_in_guest, put_in_emulators, TakesLegacy, most_body, passes_is_spelled, Refused, ReadFault, Memory}
use Rattle.mig_legacy.proofs.Batches.{batch_passes}
use Rattle.mig_legacy.proofs.Parts.{spelled_counted}

-- what a reader gives is told of in another way, where all that judging passes has this property
module _ {V Y : Type 0} (R Q : V → Y → Type 0) (Known : Y → Type 0) (f : List ℕ → Judged LegacyCause Y) (knows : (i : List ℕ) (y : Y) (rest : List ℕ) → f i ≡ Passes y rest → Known y) (turn : (v : V) (y : Y) → Known y → R v y → Q v y) where
  told_so : (a b : Option (List ℕ)) (r : Result V (Stop LegacyCause)) → AgreesWithJudging R a b f r → AgreesWithJudging Q a b f r
  told_so None b r h = tt
  told_so (Some i) b (Ok v) (y, rest, is, left, r) = (y, rest, is, left, turn v y (knows i y rest is) r)
  told_so (Some i) b (Err (Refused c)) h = h
  told_so (Some i) b (Err ReadFault) h = tt
  told_so (Some i) b (Err Memory) h = tt

batch_leaves : (e : EmulatorsOf) (n : ℕ) (i : List ℕ) (c : LegacyContent) (rest : List ℕ) → judged_as (batch_form n) i ≡ Passes c rest → put_in_emulators e c ≡ e
batch_leaves e n i c rest h = let b = batch_passes n i c rest h in subst (λ x. put_in_emulators e x ≡ e) b.says refl

toolstack_leaves : (put : EntryStep) (g : GuestOf) (e : EmulatorsOf) (i : List ℕ) (c : LegacyContent) (rest : List ℕ) → judged_as (toolstack_form e) i ≡ Passes c rest → put_in_guest put g c ≡ g
toolstack_leaves put g e i c rest h =
    let (bytes, whole, spelled) = passes_is_spelled (toolstack_form e) i c rest h in
    let counted = spelled_counted most_body (toolstack_causes e) (λ b. Pairs (pairs_of_toolstack b)) bytes c spelled in
    subst (λ x. put_in_guest put g x ≡ g) counted.value refl

module _ (put : EntryStep) (old new : ChunksSeen) (chunks : List LegacyChunk) (kind : ChunkKind) (a b : Option (List ℕ)) (r : Result (Unit {0}) (Stop LegacyCause)) (count : new.chunks ≡ old.chunks) (requests : new.requests ≡ old.requests) (buffered : new.buffered ≡ old.buffered) where
  abbrev Takes : Unit {0} → LegacyContent → Type 0
  Takes _ c = TakesLegacy put old new c

  pub takes_batch : (n : ℕ) → kind ≡ Batch n → new.emulators ≡ old.emulators → AgreesWithJudging {X = Unit {0}} (λ _ c. new.guest ≡ put_in_guest put old.guest c) a b (judged_as (batch_form n)) r → AgreesWithJudging Takes a b (judged_as (content_form chunks kind)) r
  takes_batch n is same read =
      subst (λ (k : ChunkKind). AgreesWithJudging Takes a b (judged_as (content_form chunks k)) r) (sym is)
      (told_so (λ _ c. new.guest ≡ put_in_guest put old.guest c) Takes (λ c. put_in_emulators old.emulators c ≡ old.emulators) (judged_as (batch_form n)) (batch_leaves old.emulators n)
      (λ _ c left guest. record { guest = guest; emulators = same ∙ sym left; chunks = count; requests = requests; buffered = buffered }) a b r read)

  pub takes_toolstack : kind ≡ Toolstack → old.emulators ≡ emulators_of (store_records chunks) → new.guest ≡ old.guest → AgreesWithJudging {X = Unit {0}} (λ _ c. new.emulators ≡ put_in_emulators old.emulators c) a b (judged_as (toolstack_form old.emulators)) r
      → AgreesWithJudging Takes a b (judged_as (content_form chunks kind)) r
  takes_toolstack is told same read =
      subst (λ (k : ChunkKind). AgreesWithJudging Takes a b (judged_as (content_form chunks k)) r) (sym is)
      (subst (λ (e : EmulatorsOf). AgreesWithJudging Takes a b (judged_as (toolstack_form e)) r) told
      (told_so (λ _ c. new.emulators ≡ put_in_emulators old.emulators c) Takes (λ c. put_in_guest put old.guest c ≡ old.guest) (judged_as (toolstack_form old.emulators)) (toolstack_leaves put old.guest old.emulators)
      (λ _ c left emulators. record { guest = same ∙ sym left; emulators = emulators; chunks = count; requests = requests; buffered = buffered }) a b r read))
