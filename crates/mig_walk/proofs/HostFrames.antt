-- The frames of a host, without their machine frames, have the types and pages of the host's, and say what its tables say.
use Rattle.mig_walk.proofs.Common.{◌≡◌, ℕ, Option, Some, None, IfSome, List, refl, sym, ap, ◌∙◌, option_and_then, nat_cmp-IsAntisymmetric, nat_cmp_total, option_map, level_of, PageType, Entry, FrameOf, FrameMap, HostFrame, HostFrames, type_at, get_each, said_in, said_of, says_in, each_value, without_machine}
use Rattle.std.specs.FinMap as maps

module _ (frames : HostFrames) where
  abbrev pub bare : FrameMap
  bare = each_value (λ pfn f. without_machine f) frames

  bare_at : (pfn : ℕ) → maps.get bare pfn ≡ option_map without_machine (maps.get frames pfn)
  bare_at pfn = get_each nat_cmp_total nat_cmp-IsAntisymmetric (λ (pfn : ℕ) (f : HostFrame). without_machine f) frames pfn

  same_type : (o : Option HostFrame) → option_map (λ (f : HostFrame). f.type) o ≡ option_map (λ (f : FrameOf). f.type) (option_map without_machine o)
  same_type None = refl
  same_type (Some f) = refl

  same_page : (o : Option HostFrame) → option_and_then (λ (f : HostFrame). f.page) o ≡ option_and_then (λ (f : FrameOf). f.page) (option_map without_machine o)
  same_page None = refl
  same_page (Some f) = refl

  pub bare_type : (pfn : ℕ) → option_map (λ (f : HostFrame). f.type) (maps.get frames pfn) ≡ type_at bare pfn
  bare_type pfn = same_type (maps.get frames pfn) ∙ ap (option_map (λ (f : FrameOf). f.type)) (sym (bare_at pfn))

  pub bare_page : (pfn : ℕ) → option_and_then (λ (f : HostFrame). f.page) (maps.get frames pfn) ≡ option_and_then (λ (f : FrameOf). f.page) (maps.get bare pfn)
  bare_page pfn = same_page (maps.get frames pfn) ∙ ap (option_and_then (λ (f : FrameOf). f.page)) (sym (bare_at pfn))

-- what a frame says that is a table of a level
said_here : (level slot : ℕ) (o : Option FrameOf) → option_and_then level_of (option_map (λ (f : FrameOf). f.type) o) ≡ Some level
    → said_in (Some level) (option_and_then (λ (f : FrameOf). f.page) o) slot ≡ said_of o slot
said_here level slot None is = let no : None ≡ Some level = is in cc
said_here level slot (Some f) is = ap (λ l. said_in l f.page slot) (sym is)

pub entry_said : (frames : FrameMap) (pfn level slot : ℕ) (kind : Option PageType) (page : Option (List ℕ)) (said : Option Entry)
    → kind ≡ type_at frames pfn → page ≡ option_and_then (λ (f : FrameOf). f.page) (maps.get frames pfn)
    → IfSome said (λ e. option_and_then level_of kind ≡ Some level) → IfSome said (λ e. said_in (Some level) page slot ≡ e) → IfSome said (λ e. says_in frames pfn slot ≡ e)
entry_said frames pfn level slot kind page None type has table says = tt
entry_said frames pfn level slot kind page (Some e) type has table says =
    sym (said_here level slot (maps.get frames pfn) (ap (option_and_then level_of) (sym type) ∙ table)) ∙ ap (λ o. said_in (Some level) o slot) (sym has) ∙ says
