-- The parts of a guest on its way to its blank form.
use Rattle.mig_pvtables.proofs.Common.{◌≡◌, ℕ, ◌+◌, ◌<◌, true, false, List, ◌++◌, length, take, drop, Some, None, IsSome, IfSome, refl, sym, ap, subst, ◌∙◌, arith, get_or, PartKey, part_cmp, GuestOf, PartMap, shared_key, part_total, part_exact, blanked_shared, each_value, only, little_bytes, with_field, bytes_from, append-nil, append_assoc, drop_all}
use Rattle.byteorder.specs.Numbers.{length-bytes_low_first}
use Rattle.mig_pvtables.proofs.Only.{insert_only, only_stays, only_alike}
use Rattle.mig_pvtables.proofs.BlankBytes.{shared_blanked}
use Rattle.std.specs.FinMap as maps

abbrev pub WithParts : GuestOf → PartMap → GuestOf
WithParts g m = record { kind = g.kind; top = g.top; frames = g.frames; parts = m }

abbrev pub OnlyPart : (List ℕ → List ℕ) → GuestOf → PartKey → GuestOf
OnlyPart f g key = WithParts g (each_value (only part_cmp key f) g.parts)

-- the bytes of a number, written over 8 others
eight : (zeros field : List ℕ) → length zeros ≡ 8 → length field ≡ 8 → with_field zeros 0 field ≡ field
eight zeros field size long = ap (λ l. field ++ l) (drop_all (0 + length field) zeros (omega (arith, size, long))) ∙ append-nil field

pub long_put : (g new : GuestOf) (key : PartKey) (at v : ℕ) (zeros bytes : List ℕ) → IsSome (maps.get g.parts key) → length zeros ≡ 8 → bytes ≡ with_field zeros 0 (little_bytes 8 v)
    → IfSome (maps.get g.parts key) (λ part. new ≡ WithParts g (maps.insert g.parts key ((take at part ++ bytes) ++ drop (at + length bytes) part)))
    → new ≡ OnlyPart (λ part. with_field part at (little_bytes 8 v)) g key
long_put g new key at v zeros bytes there size are wrote =
    elim (maps.get g.parts key) as (λ o. maps.get g.parts key ≡ o → IsSome o → IfSome o (λ part. new ≡ WithParts g (maps.insert g.parts key ((take at part ++ bytes) ++ drop (at + length bytes) part))) → new ≡ OnlyPart (λ part. with_field part at (little_bytes 8 v)) g key) [
      | None ↦ λ e has is. let no : false ≡ true = has in cc
      | Some part ↦ λ e has is.
          is ∙ ap (λ l. WithParts g (maps.insert g.parts key l)) (append_assoc (take at part) bytes (drop (at + length bytes) part)) ∙ ap (λ b. WithParts g (maps.insert g.parts key (take at part ++ (b ++ drop (at + length b) part)))) (are ∙ eight zeros (little_bytes 8 v) size (length-bytes_low_first 0 8 v))
          ∙ ap (WithParts g) (insert_only part_total part_exact g.parts key (λ part. with_field part at (little_bytes 8 v)) part e)
    ] refl there wrote

-- it isn't there
pub no_part : (g : GuestOf) (key : PartKey) (f : List ℕ → List ℕ) → None ≡ maps.get g.parts key → g ≡ OnlyPart f g key
no_part g key f none = ap (WithParts g) (only_stays part_total part_exact g.parts key f (λ part is. let no : None ≡ Some part = none ∙ is in cc))

-- a part of n bytes, all of which are written
pub part_put : (g : GuestOf) (key : PartKey) (h : List ℕ → List ℕ) (n : ℕ) {new : GuestOf} {part w : List ℕ} → Some part ≡ maps.get g.parts key → IfSome (maps.get g.parts key) (λ part. length part ≡ n) → length w ≡ n → w ≡ h part
    → IfSome (maps.get g.parts key) (λ part. new ≡ WithParts g (maps.insert g.parts key ((take 0 part ++ w) ++ drop (0 + length w) part))) → new ≡ OnlyPart h g key
part_put g key h n {new = new} {part = part} {w = w} is long size are wrote =
    let whole : length part ≡ n = subst (λ o. IfSome o (λ part. length part ≡ n)) (sym is) long in
    let one : new ≡ WithParts g (maps.insert g.parts key ((take 0 part ++ w) ++ drop (0 + length w) part)) = subst (λ o. IfSome o (λ part. new ≡ WithParts g (maps.insert g.parts key ((take 0 part ++ w) ++ drop (0 + length w) part)))) (sym is) wrote in
    one ∙ ap (λ l. WithParts g (maps.insert g.parts key (w ++ l))) (drop_all (0 + length w) part (omega (arith, size, whole)))
    ∙ ap (λ l. WithParts g (maps.insert g.parts key l)) (append-nil w ∙ are)
    ∙ ap (WithParts g) (insert_only part_total part_exact g.parts key h part (sym is))

-- ---- the shared page

module _ (g : GuestOf) (key : PartKey) (sole : key ≡ shared_key) where
  pub no_page : None ≡ maps.get g.parts key → g ≡ OnlyPart blanked_shared g shared_key
  no_page none = no_part g shared_key blanked_shared (none ∙ ap (maps.get g.parts) sole)

  pub shared_put : (new : GuestOf) (page : List ℕ) → Some page ≡ maps.get g.parts key → ((i : ℕ) → get_or page i 0 < 256) → IfSome (maps.get g.parts shared_key) (λ part. length part ≡ 4096)
      → new ≡ OnlyPart (λ part. with_field part 3096 (little_bytes 8 0)) g key → new ≡ OnlyPart blanked_shared g shared_key
  shared_put new page is all long put =
      let there : Some page ≡ maps.get g.parts shared_key = is ∙ ap (maps.get g.parts) sole in let size : length page ≡ 4096 = subst (λ o. IfSome o (λ part. length part ≡ 4096)) (sym there) long in
      put ∙ ap (λ k. OnlyPart (λ part. with_field part 3096 (little_bytes 8 0)) g k) sole
      ∙ ap (WithParts g) (only_alike part_total part_exact g.parts shared_key (λ part. with_field part 3096 (little_bytes 8 0)) blanked_shared (λ part has.
      let same : Some page ≡ Some part = there ∙ has in let e : page ≡ part = cc in
      ap (λ p. with_field p 3096 (little_bytes 8 0)) (sym e) ∙ shared_blanked page (bytes_from page all) size ∙ ap blanked_shared e))
