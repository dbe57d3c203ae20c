-- The entries of the first words are set, one after another.
use Rattle.mig_restore.proofs.Common.{◌≡◌, ◌+◌, ◌<◌, ℕ, List, [], ◌∷◌, ◌++◌, Option, Result, Ok, Err, refl, sym, ap, subst, ◌∙◌, length, take, get_or, GuestOf, word_pfn, type_in_word, put_entries_by, EntryStep, map-append, take_more, take-append-drop, FrameMap, AreEntriesSet, AreEntriesBegun, entry_name, word_name, FrameEntry, PageType, fold-append}
use Rattle.std.specs.Prelude.{drop, map, OnErr}

pub none_set : (put : EntryStep) (g : GuestOf) → AreEntriesSet put g g []
none_set put g = record { entries = []; named = refl; set = refl }

pub one_set : (put : EntryStep) (g h : GuestOf) (w : ℕ) (page : Option (List ℕ)) → h ≡ record g { frames = put g.kind g.frames (record { pfn = word_pfn w; type = type_in_word w; page = page }) } → AreEntriesSet put g h (w ∷ [])
one_set put g h w page is = record { entries = record { pfn = word_pfn w; type = type_in_word w; page = page } ∷ []; named = refl; set = is }

both_set : (put : EntryStep) (before g h : GuestOf) (ws vs : List ℕ) → AreEntriesSet put before g ws → AreEntriesSet put g h vs → AreEntriesSet put before h (ws ++ vs)
both_set put before g h ws vs a b = record {
  entries = a.entries ++ b.entries;
  named = map-append entry_name a.entries b.entries ∙ (λ i. a.named i ++ b.named i) ∙ sym (map-append word_name ws vs);
  set = b.set ∙ ap (λ (x : GuestOf). record x { frames = put_entries_by put x.kind x.frames b.entries }) a.set ∙ ap (λ (f : FrameMap). record before { frames = f }) (sym (fold-append (put before.kind) before.frames a.entries b.entries));
}

pub one_more_set : (put : EntryStep) (before g h : GuestOf) (list : List ℕ) (place : ℕ) → place < length list → AreEntriesSet put before g (take place list) → AreEntriesSet put g h (get_or list place 0 ∷ []) → AreEntriesSet put before h (take (place + 1) list)
one_more_set put before g h list place lt a b = subst (AreEntriesSet put before h) (sym (take_more list place 0 lt)) (both_set put before g h (take place list) (get_or list place 0 ∷ []) a b)

-- behind an error at this place
pub set_so_far : {T E : Type 0} (put : EntryStep) (r : Result T E) (before g h : GuestOf) (list : List ℕ) (place : ℕ) → AreEntriesSet put before g (take place list) → h ≡ g → OnErr r (AreEntriesBegun put before h list)
set_so_far put (Ok v) before g h list place a same = tt
set_so_far put (Err e) before g h list place a same = record { words = take place list; rest = drop place list; whole = take-append-drop place list; set = subst (λ (x : GuestOf). AreEntriesSet put before x (take place list)) (sym same) a }

-- an entry that was put for one word
pub only_entry : (put : EntryStep) (g h : GuestOf) (w : ℕ) → AreEntriesSet put g h (w ∷ []) → (page : Option (List ℕ)) × (h ≡ record g { frames = put g.kind g.frames (record { pfn = word_pfn w; type = type_in_word w; page = page }) })
only_entry put g h w set = by set.entries set.named set.set
  where
    by : (es : List FrameEntry) → map entry_name es ≡ word_name w ∷ [] → h ≡ record g { frames = put_entries_by put g.kind g.frames es } → (page : Option (List ℕ)) × (h ≡ record g { frames = put g.kind g.frames (record { pfn = word_pfn w; type = type_in_word w; page = page }) })
    by [] named is = absurd (cc)
    by (e ∷ []) named is =
        let same : entry_name e ≡ word_name w = cc in
        (e.page, is ∙ ap (λ (n : ℕ × PageType). record g { frames = put g.kind g.frames (record { pfn = n.0; type = n.1; page = e.page }) }) same)
    by (e ∷ f ∷ es) named is = absurd (cc)
