-- What the data of a toolstack add to the device model's store.
use Rattle.mig_legacy.proofs.Common.{◌≡◌, ℕ, ◌≤◌, ◌<◌, List, length, nat_lt, true, false, Some, None, refl, sym, ap, subst, ◌∙◌, lt-ltb, le-ltb, TooManyPairs, pairs_fault, pairs_in, put_pairs, text_of_map, EmulatorsOf, store_at, add_pairs, most_pairs, toolstack, toolstack_fault, pairs_of_toolstack, first_named, toolstack_causes, spelled_with, store_key, Pairs, put_in_emulators, text_of_physmaps, spelled_read}
use Rattle.mig_legacy.proofs.Parts.{toolstack_named}
use Rattle.mig_legacy.proofs.PhysmapPairs.{physmaps_spell}

module _ (e : EmulatorsOf) (body text : List ℕ) (none : toolstack_fault body ≡ None) (is : text ≡ text_of_physmaps (toolstack body)) where
  spelled : (pairs_fault text ≡ None) × (pairs_in text ≡ pairs_of_toolstack body)
  spelled = subst (λ t. (pairs_fault t ≡ None) × (pairs_in t ≡ pairs_of_toolstack body)) (sym is) (spelled_read _ (pairs_of_toolstack body) (physmaps_spell body none))

  pub text_faultless : pairs_fault text ≡ None
  text_faultless = spelled.0

  abbrev size : ℕ
  size = length (text_of_map (put_pairs (store_at e.stores store_key) (pairs_in text)))

  same_size : size ≡ spelled_with e store_key (pairs_of_toolstack body)
  same_size = ap (λ ps. spelled_with e store_key ps) spelled.1

  pub toolstack_fits : size ≤ most_pairs → first_named (toolstack_causes e body) ≡ None
  toolstack_fits fits = let room : nat_lt most_pairs (spelled_with e store_key (pairs_of_toolstack body)) ≡ false = le-ltb _ _ (subst (λ n. n ≤ most_pairs) same_size fits) in toolstack_named e body ∙ rw (none, room) refl

  pub toolstack_over : most_pairs < size → first_named (toolstack_causes e body) ≡ Some TooManyPairs
  toolstack_over many = let full : nat_lt most_pairs (spelled_with e store_key (pairs_of_toolstack body)) ≡ true = lt-ltb most_pairs _ (subst (λ n. most_pairs < n) same_size many) in toolstack_named e body ∙ rw (none, full) refl

  pub toolstack_put : (new : EmulatorsOf) → new ≡ add_pairs e store_key (pairs_in text) → new ≡ put_in_emulators e (Pairs (pairs_of_toolstack body))
  toolstack_put new now = now ∙ ap (λ ps. add_pairs e store_key ps) spelled.1
