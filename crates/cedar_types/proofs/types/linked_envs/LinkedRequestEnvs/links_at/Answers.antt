use Rattle.std.proofs.Common.{length, ap, arith}
use Rattle.cedar_types.specs.Names.{type_of}
use Rattle.cedar_types.specs.Schemas.Contents.{schema_of}
use Rattle.cedar_types.specs.Templates.{scope_of}
use Rattle.cedar_types.proofs.Linking.Counts.{links_few}
use Rattle.cedar_types.proofs.types.linked_envs.LinkedRequestEnvs.links_at.Goals as goal

pub returns-clause-few : goal.returns-clause-few
returns-clause-few c =
    let s = c.args.self.now in
    let ts = (schema_of s.schema.now).types in
    let p = links_few c.in_ok-principals.principals.items s.has_principal_slot ts
    (scope_of s.template.now.principal_constraint.constraint) (type_of c.args.place.principal.now)
    c.in_ok-principals.ensures in
    let r = links_few c.in_ok-resources.resources.items s.has_resource_slot ts
    (scope_of s.template.now.resource_constraint.constraint) (type_of c.args.place.resource.now)
    c.in_ok-resources.ensures in
    let ps = ap (λ v. length v.items) c.new.ensures.principals in
    let rs = ap (λ v. length v.items) c.new.ensures.resources in
    omega arith
