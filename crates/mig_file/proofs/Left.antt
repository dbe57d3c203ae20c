-- What is left of a file that is read on.
use Rattle.std.proofs.Common.{◌≡◌, ℕ, ◌+◌, ◌-◌, ◌<◌, min, List, [], ◌++◌, length, take, drop, Option, Some, None, IfSome, refl, sym, ap, ◌∙◌, arith, replicate, drop-drop, take-append-drop}
use Rattle.std.proofs.lemmas.List.{length-drop, length-replicate, length-take, nil_from_length, take-append-le, take_all}
use Rattle.std.proofs.lemmas.List.Elements.{All-replicate, All-take, All-drop}
use Rattle.std.specs.Io.KnownBytes.{Consumes, IsAtEnd}
use Rattle.mig_bytes.specs.Bytes.{AreBytes}
use Rattle.mig_file.specs.Files.{IsThere, left_at}

gone : (all : List ℕ) (at n : ℕ) → drop at all ≡ take n (drop at all) ++ drop (at + n) all
gone all at n = sym (take-append-drop n (drop at all)) ∙ ap (λ l. take n (drop at all) ++ l) (drop-drop n at all)

at_end : (all : List ℕ) (at count most : ℕ) → count ≡ min (length all - at) most → count ≡ 0 → 0 < most → drop (at + count) all ≡ []
at_end all at count most few none some = nil_from_length (drop (at + count) all) (omega (arith, length-drop (at + count) all, few, none, some))

pub read_on : (o : Option (List ℕ)) (at count : ℕ) (slice behind : List ℕ) → IfSome o (λ all. count ≡ min (length all - at) (length (slice ++ behind))) → length slice ≡ count → IfSome o (λ all. IsThere all at slice)
    → Consumes (left_at o at) (left_at o (at + count)) (take count (slice ++ behind)) × (count ≡ 0 → 0 < length (slice ++ behind) → IsAtEnd (left_at o (at + count)))
read_on None at count slice behind few sized there = (tt, λ none some. tt)
read_on (Some all) at count slice behind few sized there =
    let text : take count (slice ++ behind) ≡ slice = take-append-le count slice behind (omega (arith, sized)) ∙ take_all count slice (omega (arith, sized)) in
    let read : slice ≡ take count (drop at all) = sym there.1 ∙ ap (λ n. take n (drop at all)) sized in
    (gone all at count ∙ ap (λ l. l ++ drop (at + count) all) (sym (text ∙ read)), at_end all at count (length (slice ++ behind)) few)

-- nothing is asked for or left
pub none_read : (o : Option (List ℕ)) (at count : ℕ) (buf : List ℕ) → count ≡ 0 → IfSome o (λ all. count ≡ min (length all - at) (length buf))
    → Consumes (left_at o at) (left_at o at) (take 0 buf) × (◌≡◌ {A = ℕ} 0 0 → 0 < length buf → IsAtEnd (left_at o at))
none_read None at count buf none few = (tt, λ _ some. tt)
none_read (Some all) at count buf none few =
    (refl, λ _ some. nil_from_length (drop at all) (omega (arith, length-drop at all, few, none, some)))

pub rest_counted : (o : Option (List ℕ)) (at n : ℕ) → IfSome o (λ all. n ≡ length all - at) → IfSome (left_at o at) (λ rest. n ≡ length rest)
rest_counted None at n is = tt
rest_counted (Some all) at n is = is ∙ sym (length-drop at all)

pub passed : (o : Option (List ℕ)) (at count most : ℕ) → IfSome o AreBytes → IfSome o (λ all. count ≡ min (length all - at) most)
    → ((bytes : List ℕ) × AreBytes bytes × (length bytes ≡ count) × Consumes (left_at o at) (left_at o (at + count)) bytes) × (count ≡ 0 → 0 < most → IsAtEnd (left_at o (at + count)))
passed None at count most below few = ((replicate count 0, All-replicate (λ b. b < 256) count 0 (omega arith), length-replicate count 0, tt), λ none some. tt)
passed (Some all) at count most below few = (
  (
    take count (drop at all),
    All-take (λ b. b < 256) count (drop at all) (All-drop (λ b. b < 256) at all below),
    omega (arith, length-take count (drop at all), length-drop at all, few),
    gone all at count,
  ),
  at_end all at count most few,
)
