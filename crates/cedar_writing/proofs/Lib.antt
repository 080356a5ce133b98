mod Forms
