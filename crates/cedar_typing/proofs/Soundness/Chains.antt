-- Extended `has` does not go wrong.
use Rattle.std.proofs.Common.{◌≡◌, Bool, true, false, ◌||◌, List, [], ◌∷◌, Option, Some, None, if◌then◌else◌, refl, sym, subst}
use Rattle.cedar_types.specs.declared.base.location.Loc.{Loc}
use Rattle.cedar_types.specs.Names.{Text}
use Rattle.cedar_types.specs.Types.{Ty}
use Rattle.cedar_types.specs.Expressions.Tree.{ext_has_attr}
use Rattle.cedar_types.specs.Expressions.View.{Written}
use Rattle.cedar_types.specs.Schemas.{has_fault}
use Rattle.cedar_types.specs.Types.Lookups.{attribute_type}
use Rattle.cedar_types.specs.Environments.RequestEnvs.{is_partial}
use Rattle.cedar_types.specs.Values.Stores.{ConformingStore}
use Rattle.cedar_types.specs.Errors.{Finding}
use Rattle.cedar_typing.specs.Capabilities.{Caps, no_caps}
use Rattle.cedar_types.specs.Schemas.Formed.{has_formed_types}
use Rattle.cedar_typing.specs.Eager.{Decision, gives, refuses}
use Rattle.cedar_typing.specs.Evaluation.Conformance.{HasAttribute, AllHold}
use Rattle.cedar_typing.specs.Evaluation.Eval.{get, path_test, eval}
use Rattle.cedar_typing.specs.Evaluation.Outcomes.{Test, Says, on_value, then_test}
use Rattle.cedar_typing.specs.Evaluation.World.{World, Outcome, Gives, Fails}
use Rattle.cedar_typing.specs.Rules.Attributes.{get_decides}
use Rattle.cedar_typing.specs.Rules.Chains.{Progress, no_steps, end_of_chain, after_access, made_up, chain, chain_form}
use Rattle.cedar_typing.specs.Soundness.{HasFound, IsSafe}
use Rattle.cedar_typing.specs.TypeEnv.{TypeEnv}
use Rattle.cedar_typing.specs.TypedExpr.{Source, place_of}
use Rattle.cedar_typing.proofs.Bounds.Attributes.{Joins}
use Rattle.cedar_typing.proofs.KeptTypes.Attributes.{attribute_kept}
use Rattle.cedar_typing.proofs.KeptTypes.Chains.{after_step}
use Rattle.cedar_typing.proofs.KeptTypes.Eager.{decided_type}
use Rattle.cedar_typing.proofs.KeptTypes.Keeping.{AllKept}
use Rattle.cedar_typing.proofs.KeptTypes.Types.{keeping, KeptIn, formed_if}
use Rattle.cedar_typing.proofs.Soundness.Capabilities.{hold_none}
use Rattle.cedar_typing.proofs.Soundness.Eager.{AreTypes, GiftIsSound, AllFound, SoundKeptForm}
use Rattle.cedar_typing.proofs.Values.Attributes.{get_typed, get_safe}
use Rattle.cedar_typing.proofs.Soundness.Chains.Steps.{RestIsSound, SoundRest, HoldsIfSure, any_test, refused_rest, end_rest, last_step}
use Rattle.cedar_typing.proofs.Soundness.Chains.Steps.{first_step, known, known_there, step_rest}
pub mod Steps

module _ (strictly : Bool) (env : TypeEnv) (world : World) (conforms : ConformingStore env.schema world.store)
    (prior : Caps) (hold : AllHold world prior) (faults : has_fault env.schema ≡ false)
    (formed : (strictly || has_formed_types env.schema) ≡ true) (total : is_partial env.mode ≡ false)
    (joins : (s : Ty) → KeptIn strictly s → Joins env.schema s) where
  -- ---- the access between two steps

  module _ (e : Source) (s : Ty) (h : HasFound (Some s) (eval world e)) (n : KeptIn strictly s) (x : Text) (p : Progress) where
    -- the outcome of the access
    abbrev got : Outcome → Outcome
    got o = on_value o (get world.store x)

    abbrev known_now : Bool
    known_now = known prior e x p

    got_typed : (u : Ty) (r : Bool) (o : Outcome) → HasFound (Some s) o
        → attribute_type env.schema s x ≡ Some (u, r) → HasFound (Some u) (got o)
    got_typed u r (Gives v) k f = get_typed env.schema x world.store conforms s u r v (joins s n) k f
    got_typed u r (Fails z) k f = tt

    got_safe : (u : Ty) (r : Bool) (o : Outcome) → (known_now ≡ true → HasAttribute world.store x o)
        → HasFound (Some s) o → attribute_type env.schema s x ≡ Some (u, r) → (r || known_now) ≡ true
        → IsSafe o → IsSafe (got o)
    got_safe u r (Gives v) i k f c g = get_safe env.schema x world.store conforms s u r known_now v (joins s n) k f i c
    got_safe u r (Fails z) i k f c g = g

    module _ (t : Test) (next : Ty → Decision)
        (rest : (u : Ty) → HasFound (Some u) (got (eval world e)) → KeptIn strictly u
        → SoundRest world (got (eval world e)) p t (next u)) where
      got_gift : (u : Ty) (r : Bool) → attribute_type env.schema s x ≡ Some (u, r) → (r || known_now) ≡ true
          → (d : Decision) → RestIsSound world (got (eval world e)) p t d → RestIsSound world (eval world e) p t d
      got_gift u r f c (gives w cs) k = record {
        safe = λ i g. k.safe i (got_safe u r (eval world e) (known_there world prior hold e x p i) h f c g);
        caps_hold_if_true = k.caps_hold_if_true;
        caps_hold_at_true = k.caps_hold_at_true;
      }
      got_gift u r f c (refuses w fs) k = tt

      declared_rest : (u : Ty) (r b : Bool) (fs : List Finding) → attribute_type env.schema s x ≡ Some (u, r) → (r || known_now) ≡ b
          → SoundRest world (eval world e) p t (after_access (if b then gives u no_caps else refuses (Some u) fs) next)
      declared_rest u r true fs f c =
          let k = rest u (got_typed u r (eval world e) h f)
          (attribute_kept (keeping strictly) env.schema faults
          (formed_if strictly (has_formed_types env.schema) formed) s x u r n f) in
          record { typed = k.typed; boolean = k.boolean; sure = k.sure; succeeds = got_gift u r f c (next u) k.succeeds }
      declared_rest u r false fs f c = refused_rest world (eval world e) p t fs

      access_rest : (l : Option Loc) (a : Option (Ty × Bool)) → attribute_type env.schema s x ≡ a
          → SoundRest world (eval world e) p t (after_access (get_decides env l x known_now s a) next)
      access_rest l (Some a) f = declared_rest a.0 a.1 (a.1 || known_now) _ f refl
      access_rest l None f = rw total (refused_rest world (eval world e) p t _)

  -- ---- from step to step

  chain_rest : (l l' : Option Loc) (xs : List Text) (e : Source) (s : Ty) (x : Text) (p : Progress)
      → HasFound (Some s) (eval world e) → KeptIn strictly s → HoldsIfSure world p
      → SoundRest world (eval world e) p (then_test (eval world e) (path_test world.store x xs)) (chain env l l' prior xs e s x p)
  chain_rest l l' [] e s x p h n holds =
      subst (λ t. SoundRest world (eval world e) p t (chain env l l' prior [] e s x p)) (sym (last_step world x (eval world e)))
      (step_rest env world conforms prior hold e s h x p holds l end_of_chain (Says true) (end_rest world (eval world e)))
  chain_rest l l' (y ∷ ys) e s x p h n holds =
      let later = then_test (eval world (made_up e x)) (path_test world.store y ys) in
      let next : Ty → Progress → Decision = λ u q. chain env l' l' prior ys (made_up e x) u y q in
      subst (λ t. SoundRest world (eval world e) p t (chain env l l' prior (y ∷ ys) e s x p)) (sym (first_step world x y ys (eval world e)))
      (step_rest env world conforms prior hold e s h x p holds l (after_step env l prior e s x next) later
      (λ q k. access_rest e s h n x q later (λ u. next u q) (λ u i m. chain_rest l' l' ys (made_up e x) u y q i m k)
      l (attribute_type env.schema s x) refl))

-- ---- the form

module _ (env : TypeEnv) (world : World) (conforms : ConformingStore env.schema world.store) (m : Written)
    (prior : Caps) (hold : AllHold world prior) (e : Source) (x : Text) (xs : List Text) where
  abbrev base : Outcome
  base = eval world e

  abbrev whole : Outcome
  whole = eval world (ext_has_attr m e x xs)

  abbrev test : Test
  test = then_test base (path_test world.store x xs)

  gift_of_rest : (d : Decision) → RestIsSound world base no_steps test d → GiftIsSound world (base ∷ []) whole d
  gift_of_rest (gives u c) r = record {
    safe = λ f. r.safe (hold_none world) f.0;
    caps_hold_if_true = r.caps_hold_if_true (hold_none world);
    caps_hold_at_true = r.caps_hold_at_true;
  }
  gift_of_rest (refuses u fs) r = tt

  pub chain_sound : (strictly : Bool) → has_fault env.schema ≡ false → (strictly || has_formed_types env.schema)
      ≡ true → is_partial env.mode ≡ false → ((s : Ty) → KeptIn strictly s → Joins env.schema s)
      → SoundKeptForm strictly world (chain_form env m prior e x xs) (base ∷ []) whole
  chain_sound strictly faults formed total joins = record { typed = typed; succeeds = succeeds; failed = λ t h. h }
    where
      from_base : (s : Ty) → HasFound (Some s) base → KeptIn strictly s
          → SoundRest world base no_steps test (chain env (place_of e) m.place prior xs e s x no_steps)
      from_base s h n =
          chain_rest strictly env world conforms prior hold faults formed total joins (place_of e)
          m.place xs e s x no_steps h n (λ k. hold_none world)

      typed : (ts : List (Option Ty)) → AreTypes (chain_form env m prior e x xs) (base ∷ []) ts
          → AllKept (KeptIn strictly) ts
          → HasFound (decided_type ((chain_form env m prior e x xs).decides ts)) whole
      typed [] a n = absurd a.have
      typed (None ∷ ts) a n = any_test test
      typed (Some s ∷ ts) a n = (from_base s a.have.0 n.0).typed

      succeeds : (ts : List (Option Ty)) → AreTypes (chain_form env m prior e x xs) (base ∷ []) ts
          → AllKept (KeptIn strictly) ts → AllFound ts
          → GiftIsSound world (base ∷ []) whole ((chain_form env m prior e x xs).decides ts)
      succeeds [] a n f = absurd a.have
      succeeds (None ∷ ts) a n f = absurd f.0
      succeeds (Some s ∷ ts) a n f =
          gift_of_rest (chain env (place_of e) m.place prior xs e s x no_steps) (from_base s a.have.0 n.0).succeeds
