-- What a saver finds with types that it saw last.
use Rattle.mig_host_laws.proofs.Common.{Unsound, number_of_unsound, HostOf, ◌≡◌, ℕ, true, Option, subst, sym, ◌∙◌, ◌↔◌, PageType, type_at, unsoundness, guest_in, Standing, in_host, first_row, IsWide, IsWrong, UnsoundHas, NamesFirstRow, no_context, no_p2m, no_shared, no_vcpu, other_type, listed_twice, large, nameless, many_descriptors, field_ill, bad_context, before_saver, is_of_no_type}
use Rattle.mig_host_laws.proofs.Instances.{unsoundness_named, unsoundness_is_row}
use Rattle.mig_host_laws.proofs.NamedFirst.{one_named}

-- a row that doesn't speak of types stands whatever they are
pub untyped : (s : Standing) (seen : ℕ → Option PageType) (k : ℕ) (c : Unsound) → is_of_no_type c ≡ true → IsWrong s k c → IsWrong (record s { types = seen }) k c
untyped s seen _ _ of (no_context kind none) = no_context kind none
untyped s seen _ _ of (no_p2m kind none) = no_p2m kind none
untyped s seen _ _ of (no_shared kind none) = no_shared kind none
untyped s seen _ _ of (no_vcpu kind none) = no_vcpu kind none
untyped s seen _ _ of (other_type k pfn list other) = cc
untyped s seen _ _ of (listed_twice j k pfn slot less before list lt some) = cc
untyped s seen _ _ of (large pfn slot lt says) = large pfn slot lt says
untyped s seen _ _ of (nameless pfn slot n lt says none) = nameless pfn slot n lt says none
untyped s seen _ _ of (many_descriptors key c is code many) = many_descriptors key c is code many
untyped s seen _ _ of (field_ill key c field is code most uses other) = cc
untyped s seen _ _ of (bad_context bytes fault is fails) = bad_context bytes fault is fails

pub row_stands : (h : HostOf) (seen : ℕ → Option PageType) (k : ℕ) (c : Unsound) → is_of_no_type c ≡ true → IsWrong (before_saver h seen) k c ↔ UnsoundHas h k c
row_stands h seen k c of = (untyped (before_saver h seen) (in_host h).types k c of, untyped (in_host h) seen k c of)

-- where the types are those of the host, what is named first before a saver is named first in the host
pub saver_names : (h : HostOf) (seen : ℕ → Option PageType) (found : Option Unsound) → ((pfn : ℕ) → seen pfn ≡ type_at (guest_in h).frames pfn) → NamesFirstRow (before_saver h seen) found → found ≡ unsoundness h
saver_names h seen found same first =
    let types : seen ≡ type_at (guest_in h).frames = λ i pfn. same pfn i in
    one_named number_of_unsound (UnsoundHas h) found (unsoundness h) (subst (λ f. NamesFirstRow (before_saver h f) found) types first) (unsoundness_named h)

pub saver_finds : (h : HostOf) (seen : ℕ → Option PageType) (width : ℕ) → ((pfn : ℕ) → seen pfn ≡ type_at (guest_in h).frames pfn) → IsWide width (in_host h) → first_row width (before_saver h seen) ≡ unsoundness h
saver_finds h seen width same wide = (λ i. first_row width (before_saver h (λ pfn. same pfn i))) ∙ sym (unsoundness_is_row h width wide)
