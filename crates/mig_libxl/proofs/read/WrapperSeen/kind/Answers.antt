use Rattle.mig_libxl.proofs.Common.{◌≡◌, Option, Some, None, refl, ap, subst, ImageOf, Holds, same_Some, Kind}
use Rattle.mig_libxl_form.specs.Behind.{kind_of_image}
use Rattle.mig_libxl.proofs.read.WrapperSeen.kind.Goals as goal

module _ {I : Type 0} (is_of : I → ImageOf → Type 0) where
  -- what is kept of the image is of its kind
  held_kind : (o : Option I) (x : I) (kind : Kind) → o ≡ Some x → ((image : ImageOf) → is_of x image → kind ≡ image.opening.kind) → (i : Option ImageOf) → Holds is_of o i → Some kind ≡ kind_of_image i
  held_kind None x kind is same i h = absurd (cc)
  held_kind (Some y) x kind is same None h = absurd h
  held_kind (Some y) x kind is same (Some image) h = ap Some (same image (subst (λ z. is_of z image) (same_Some y x is) h))

  none_held : (o : Option I) → o ≡ None → (i : Option ImageOf) → Holds is_of o i → None ≡ kind_of_image i
  none_held None is None h = refl
  none_held None is (Some image) h = absurd h
  none_held (Some y) is i h = absurd (cc)

pub returns-in-Some-clause-same : goal.returns-in-Some-clause-same
returns-in-Some-clause-same g c = held_kind g.I.KeptImage.is_of c.args.self.now.image c.in-Some.kept c.kind.result c.in-Some.is c.kind.ensures.same

pub returns-in-None-clause-same : goal.returns-in-None-clause-same
returns-in-None-clause-same g c = none_held g.I.KeptImage.is_of c.args.self.now.image c.in-None.is
