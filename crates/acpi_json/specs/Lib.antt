pub mod Text
pub mod Number
pub mod Value
pub mod Field
pub mod Table
pub mod Finding
pub mod Array
pub mod Laws
