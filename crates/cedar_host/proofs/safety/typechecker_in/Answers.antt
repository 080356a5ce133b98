use Rattle.std.proofs.Common.{ap, ◌∙◌}
use Rattle.cedar_types.specs.Extensions.{functions_of, overloaded_types_of}
use Rattle.cedar_types.specs.Schemas.Contents.{schema_of}
use Rattle.cedar_host.proofs.safety.typechecker_in.Goals as goal

pub returns : goal.returns
returns g c =
    let meaning = g.C.ArgumentCheck.refusal in
    let schema = ap (λ s. s.now) c.new.ensures.schema ∙ c.schema-schema.ensures in
    let extensions = ap (λ x. x.now) (c.new.ensures.extensions ∙ c.extensions-extensions.ensures) in
    let mode = c.new.ensures.mode ∙ c.from.ensures in
    λ i. record {
      schema = schema_of (schema i);
      mode = mode i;
      table = record {
        functions = functions_of meaning (extensions i);
        overloaded_types = overloaded_types_of (extensions i);
      };
    }
